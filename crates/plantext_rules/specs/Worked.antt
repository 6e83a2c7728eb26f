-- Texts and what they are read as: plan P's, and one for each sentence of the grammar (docs/TEXT.md). The characters stand
-- beside each text.
use Rattle.std.specs.Prelude.{ℕ, List, [], ◌∷◌}
use Rattle.rules.specs.Verdict.{Verdict}
use Rattle.rules.specs.Verdict.{Accepted, Refused}
use Rattle.plantext_rules.specs.Reading.{text_answer}

pub record Case : Type 0 where
  pub text : List ℕ
  pub says : Verdict

abbrev pub verdict_on : Case → Verdict
verdict_on c = (text_answer c.text).verdict

-- plan P:
--   N 2 W 1 B 1 Q 3
--   1 F 1 E 1 R 7 X 2 G 1 S 1
--   2 F 1 E 3 R 2 X 1
abbrev pub plan_p : Case
plan_p = record {
  text =
      78 ∷ 32 ∷ 50 ∷ 32 ∷ 87 ∷ 32 ∷ 49 ∷ 32 ∷ 66 ∷ 32 ∷ 49 ∷ 32 ∷ 81 ∷ 32 ∷ 51 ∷ 10 ∷ 49 ∷ 32 ∷ 70 ∷ 32 ∷ 49 ∷ 32
      ∷ 69 ∷ 32 ∷ 49 ∷ 32 ∷ 82 ∷ 32 ∷ 55 ∷ 32 ∷ 88 ∷ 32 ∷ 50 ∷ 32 ∷ 71 ∷ 32 ∷ 49 ∷ 32 ∷ 83 ∷ 32 ∷ 49 ∷ 10 ∷ 50 ∷ 32
      ∷ 70 ∷ 32 ∷ 49 ∷ 32 ∷ 69 ∷ 32 ∷ 51 ∷ 32 ∷ 82 ∷ 32 ∷ 50 ∷ 32 ∷ 88 ∷ 32 ∷ 49 ∷ 10 ∷ [];
  says = Accepted;
}

-- a comment, an empty line, tabs, CR LF, G and S of the last device given, no end of the last line:
--   # yard 7
--   N 2<TAB>W 1 B  1 Q 3<CR>
--   1 F 1 E 1 R 7 X 2 G 1 S 1
--   2 F 1 E 3 R 2 X 1 G 0 S 0
abbrev pub skipped : Case
skipped = record {
  text =
      35 ∷ 32 ∷ 121 ∷ 97 ∷ 114 ∷ 100 ∷ 32 ∷ 55 ∷ 10 ∷ 10 ∷ 78 ∷ 32 ∷ 50 ∷ 9 ∷ 87 ∷ 32 ∷ 49 ∷ 32 ∷ 66 ∷ 32 ∷ 32 ∷ 49
      ∷ 32 ∷ 81 ∷ 32 ∷ 51 ∷ 13 ∷ 10 ∷ 49 ∷ 32 ∷ 70 ∷ 32 ∷ 49 ∷ 32 ∷ 69 ∷ 32 ∷ 49 ∷ 32 ∷ 82 ∷ 32 ∷ 55 ∷ 32 ∷ 88 ∷ 32
      ∷ 50 ∷ 32 ∷ 71 ∷ 32 ∷ 49 ∷ 32 ∷ 83 ∷ 32 ∷ 49 ∷ 10 ∷ 50 ∷ 32 ∷ 70 ∷ 32 ∷ 49 ∷ 32 ∷ 69 ∷ 32 ∷ 51 ∷ 32 ∷ 82 ∷ 32
      ∷ 50 ∷ 32 ∷ 88 ∷ 32 ∷ 49 ∷ 32 ∷ 71 ∷ 32 ∷ 48 ∷ 32 ∷ 83 ∷ 32 ∷ 48 ∷ [];
  says = Accepted;
}

-- R1 = 6: the plan check's verdict, 8 at 1:
--   N 2 W 1 B 1 Q 3
--   1 F 1 E 1 R 6 X 2 G 1 S 1
--   2 F 1 E 3 R 2 X 1
abbrev pub shorter : Case
shorter = record {
  text =
      78 ∷ 32 ∷ 50 ∷ 32 ∷ 87 ∷ 32 ∷ 49 ∷ 32 ∷ 66 ∷ 32 ∷ 49 ∷ 32 ∷ 81 ∷ 32 ∷ 51 ∷ 10 ∷ 49 ∷ 32 ∷ 70 ∷ 32 ∷ 49 ∷ 32
      ∷ 69 ∷ 32 ∷ 49 ∷ 32 ∷ 82 ∷ 32 ∷ 54 ∷ 32 ∷ 88 ∷ 32 ∷ 50 ∷ 32 ∷ 71 ∷ 32 ∷ 49 ∷ 32 ∷ 83 ∷ 32 ∷ 49 ∷ 10 ∷ 50 ∷ 32
      ∷ 70 ∷ 32 ∷ 49 ∷ 32 ∷ 69 ∷ 32 ∷ 51 ∷ 32 ∷ 82 ∷ 32 ∷ 50 ∷ 32 ∷ 88 ∷ 32 ∷ 49 ∷ 10 ∷ [];
  says = Refused 8 1;
}

-- a number of six digits:
--   N 2 W 000001 B 1 Q 3
--   1 F 1 E 1 R 7 X 2 G 1 S 1
--   2 F 1 E 3 R 2 X 1
abbrev pub six_digits : Case
six_digits = record {
  text =
      78 ∷ 32 ∷ 50 ∷ 32 ∷ 87 ∷ 32 ∷ 48 ∷ 48 ∷ 48 ∷ 48 ∷ 48 ∷ 49 ∷ 32 ∷ 66 ∷ 32 ∷ 49 ∷ 32 ∷ 81 ∷ 32 ∷ 51 ∷ 10 ∷ 49
      ∷ 32 ∷ 70 ∷ 32 ∷ 49 ∷ 32 ∷ 69 ∷ 32 ∷ 49 ∷ 32 ∷ 82 ∷ 32 ∷ 55 ∷ 32 ∷ 88 ∷ 32 ∷ 50 ∷ 32 ∷ 71 ∷ 32 ∷ 49 ∷ 32 ∷ 83
      ∷ 32 ∷ 49 ∷ 10 ∷ 50 ∷ 32 ∷ 70 ∷ 32 ∷ 49 ∷ 32 ∷ 69 ∷ 32 ∷ 51 ∷ 32 ∷ 82 ∷ 32 ∷ 50 ∷ 32 ∷ 88 ∷ 32 ∷ 49 ∷ 10 ∷ [];
  says = Refused 28 1;
}

-- a number of five digits that no time has:
--   N 2 W 70000 B 1 Q 3
--   1 F 1 E 1 R 7 X 2 G 1 S 1
--   2 F 1 E 3 R 2 X 1
abbrev pub five_digits : Case
five_digits = record {
  text =
      78 ∷ 32 ∷ 50 ∷ 32 ∷ 87 ∷ 32 ∷ 55 ∷ 48 ∷ 48 ∷ 48 ∷ 48 ∷ 32 ∷ 66 ∷ 32 ∷ 49 ∷ 32 ∷ 81 ∷ 32 ∷ 51 ∷ 10 ∷ 49 ∷ 32
      ∷ 70 ∷ 32 ∷ 49 ∷ 32 ∷ 69 ∷ 32 ∷ 49 ∷ 32 ∷ 82 ∷ 32 ∷ 55 ∷ 32 ∷ 88 ∷ 32 ∷ 50 ∷ 32 ∷ 71 ∷ 32 ∷ 49 ∷ 32 ∷ 83 ∷ 32
      ∷ 49 ∷ 10 ∷ 50 ∷ 32 ∷ 70 ∷ 32 ∷ 49 ∷ 32 ∷ 69 ∷ 32 ∷ 51 ∷ 32 ∷ 82 ∷ 32 ∷ 50 ∷ 32 ∷ 88 ∷ 32 ∷ 49 ∷ 10 ∷ [];
  says = Refused 2 0;
}

-- a device's line that starts with another number:
--   N 2 W 1 B 1 Q 3
--   2 F 1 E 1 R 7 X 2 G 1 S 1
--   2 F 1 E 3 R 2 X 1
abbrev pub other_number : Case
other_number = record {
  text =
      78 ∷ 32 ∷ 50 ∷ 32 ∷ 87 ∷ 32 ∷ 49 ∷ 32 ∷ 66 ∷ 32 ∷ 49 ∷ 32 ∷ 81 ∷ 32 ∷ 51 ∷ 10 ∷ 50 ∷ 32 ∷ 70 ∷ 32 ∷ 49 ∷ 32
      ∷ 69 ∷ 32 ∷ 49 ∷ 32 ∷ 82 ∷ 32 ∷ 55 ∷ 32 ∷ 88 ∷ 32 ∷ 50 ∷ 32 ∷ 71 ∷ 32 ∷ 49 ∷ 32 ∷ 83 ∷ 32 ∷ 49 ∷ 10 ∷ 50 ∷ 32
      ∷ 70 ∷ 32 ∷ 49 ∷ 32 ∷ 69 ∷ 32 ∷ 51 ∷ 32 ∷ 82 ∷ 32 ∷ 50 ∷ 32 ∷ 88 ∷ 32 ∷ 49 ∷ 10 ∷ [];
  says = Refused 28 2;
}

-- a field left out:
--   N 2 W 1 B 1 Q 3
--   1 F 1 R 7 X 2 G 1 S 1
--   2 F 1 E 3 R 2 X 1
abbrev pub field_missing : Case
field_missing = record {
  text =
      78 ∷ 32 ∷ 50 ∷ 32 ∷ 87 ∷ 32 ∷ 49 ∷ 32 ∷ 66 ∷ 32 ∷ 49 ∷ 32 ∷ 81 ∷ 32 ∷ 51 ∷ 10 ∷ 49 ∷ 32 ∷ 70 ∷ 32 ∷ 49 ∷ 32
      ∷ 82 ∷ 32 ∷ 55 ∷ 32 ∷ 88 ∷ 32 ∷ 50 ∷ 32 ∷ 71 ∷ 32 ∷ 49 ∷ 32 ∷ 83 ∷ 32 ∷ 49 ∷ 10 ∷ 50 ∷ 32 ∷ 70 ∷ 32 ∷ 49 ∷ 32
      ∷ 69 ∷ 32 ∷ 51 ∷ 32 ∷ 82 ∷ 32 ∷ 50 ∷ 32 ∷ 88 ∷ 32 ∷ 49 ∷ 10 ∷ [];
  says = Refused 28 2;
}

-- G and S of a device that is not the last:
--   N 2 W 1 B 1 Q 3
--   1 F 1 E 1 R 7 X 2
--   2 F 1 E 3 R 2 X 1
abbrev pub spacing_missing : Case
spacing_missing = record {
  text =
      78 ∷ 32 ∷ 50 ∷ 32 ∷ 87 ∷ 32 ∷ 49 ∷ 32 ∷ 66 ∷ 32 ∷ 49 ∷ 32 ∷ 81 ∷ 32 ∷ 51 ∷ 10 ∷ 49 ∷ 32 ∷ 70 ∷ 32 ∷ 49 ∷ 32
      ∷ 69 ∷ 32 ∷ 49 ∷ 32 ∷ 82 ∷ 32 ∷ 55 ∷ 32 ∷ 88 ∷ 32 ∷ 50 ∷ 10 ∷ 50 ∷ 32 ∷ 70 ∷ 32 ∷ 49 ∷ 32 ∷ 69 ∷ 32 ∷ 51 ∷ 32
      ∷ 82 ∷ 32 ∷ 50 ∷ 32 ∷ 88 ∷ 32 ∷ 49 ∷ 10 ∷ [];
  says = Refused 28 2;
}

-- a line missing:
--   N 2 W 1 B 1 Q 3
--   1 F 1 E 1 R 7 X 2 G 1 S 1
abbrev pub line_missing : Case
line_missing = record {
  text =
      78 ∷ 32 ∷ 50 ∷ 32 ∷ 87 ∷ 32 ∷ 49 ∷ 32 ∷ 66 ∷ 32 ∷ 49 ∷ 32 ∷ 81 ∷ 32 ∷ 51 ∷ 10 ∷ 49 ∷ 32 ∷ 70 ∷ 32 ∷ 49 ∷ 32
      ∷ 69 ∷ 32 ∷ 49 ∷ 32 ∷ 82 ∷ 32 ∷ 55 ∷ 32 ∷ 88 ∷ 32 ∷ 50 ∷ 32 ∷ 71 ∷ 32 ∷ 49 ∷ 32 ∷ 83 ∷ 32 ∷ 49 ∷ 10 ∷ [];
  says = Refused 28 3;
}

-- a line too many:
--   N 2 W 1 B 1 Q 3
--   1 F 1 E 1 R 7 X 2 G 1 S 1
--   2 F 1 E 3 R 2 X 1
--   3 F 1 E 3 R 2 X 1
abbrev pub line_too_many : Case
line_too_many = record {
  text =
      78 ∷ 32 ∷ 50 ∷ 32 ∷ 87 ∷ 32 ∷ 49 ∷ 32 ∷ 66 ∷ 32 ∷ 49 ∷ 32 ∷ 81 ∷ 32 ∷ 51 ∷ 10 ∷ 49 ∷ 32 ∷ 70 ∷ 32 ∷ 49 ∷ 32
      ∷ 69 ∷ 32 ∷ 49 ∷ 32 ∷ 82 ∷ 32 ∷ 55 ∷ 32 ∷ 88 ∷ 32 ∷ 50 ∷ 32 ∷ 71 ∷ 32 ∷ 49 ∷ 32 ∷ 83 ∷ 32 ∷ 49 ∷ 10 ∷ 50 ∷ 32
      ∷ 70 ∷ 32 ∷ 49 ∷ 32 ∷ 69 ∷ 32 ∷ 51 ∷ 32 ∷ 82 ∷ 32 ∷ 50 ∷ 32 ∷ 88 ∷ 32 ∷ 49 ∷ 10 ∷ 10 ∷ 51 ∷ 32 ∷ 70 ∷ 32 ∷ 49
      ∷ 32 ∷ 69 ∷ 32 ∷ 51 ∷ 32 ∷ 82 ∷ 32 ∷ 50 ∷ 32 ∷ 88 ∷ 32 ∷ 49 ∷ 10 ∷ [];
  says = Refused 28 5;
}

-- a blank at a line's end:
--   N 2 W 1 B 1 Q 3
--   1 F 1 E 1 R 7 X 2 G 1 S 1
--   2 F 1 E 3 R 2 X 1
abbrev pub blank_at_end : Case
blank_at_end = record {
  text =
      78 ∷ 32 ∷ 50 ∷ 32 ∷ 87 ∷ 32 ∷ 49 ∷ 32 ∷ 66 ∷ 32 ∷ 49 ∷ 32 ∷ 81 ∷ 32 ∷ 51 ∷ 10 ∷ 49 ∷ 32 ∷ 70 ∷ 32 ∷ 49 ∷ 32
      ∷ 69 ∷ 32 ∷ 49 ∷ 32 ∷ 82 ∷ 32 ∷ 55 ∷ 32 ∷ 88 ∷ 32 ∷ 50 ∷ 32 ∷ 71 ∷ 32 ∷ 49 ∷ 32 ∷ 83 ∷ 32 ∷ 49 ∷ 10 ∷ 50 ∷ 32
      ∷ 70 ∷ 32 ∷ 49 ∷ 32 ∷ 69 ∷ 32 ∷ 51 ∷ 32 ∷ 82 ∷ 32 ∷ 50 ∷ 32 ∷ 88 ∷ 32 ∷ 49 ∷ 32 ∷ 10 ∷ [];
  says = Refused 28 3;
}

-- nothing at all:
abbrev pub empty : Case
empty = record {
  text =
      [];
  says = Refused 28 1;
}

abbrev pub cases : List Case
cases =
    plan_p ∷ skipped ∷ shorter ∷ six_digits ∷ five_digits ∷ other_number ∷ field_missing ∷ spacing_missing ∷ line_missing ∷ line_too_many ∷ blank_at_end ∷ empty ∷ []
