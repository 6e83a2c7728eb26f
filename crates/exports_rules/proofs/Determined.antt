-- Any two results that a call's contract allows are equal.
use Rattle.laws.proofs.Tests.{determined}
use Rattle.exports_rules.specs.Theorems.{CallsDetermined}

pub calls_determined : CallsDetermined
calls_determined = record {
  check = λ plan r s a b j. (determined a.no b.no j, determined a.at b.at j);
  fresh = λ plan yard r s a b j. (
    determined a.bytes b.bytes j,
    determined a.answer.no b.answer.no j,
    determined a.answer.at b.answer.at j,
  );
  tick = λ plan yard x r s a b j. (
    determined a.bytes b.bytes j,
    determined a.answer.no b.answer.no j,
    determined a.letter b.letter j,
    determined a.to b.to j,
    determined a.answer.at b.answer.at j,
  );
  run = λ plan yard roll budget engaged r s a b j. (
    determined a.bytes b.bytes j,
    determined a.buffer b.buffer j,
    determined a.answer.no b.answer.no j,
    determined a.done b.done j,
    determined a.answer.at b.answer.at j,
  );
  read = λ file plan r s a b j. (
    determined a.bytes b.bytes j,
    determined a.answer.no b.answer.no j,
    determined a.answer.at b.answer.at j,
  );
  write = λ plan file r s a b j. (
    determined a.buffer b.buffer j,
    determined a.answer.no b.answer.no j,
    determined a.long b.long j,
    determined a.answer.at b.answer.at j,
  );
  find = λ file roll r s a b j. (
    determined a.slice b.slice j,
    determined a.from b.from j,
    determined a.long b.long j,
  );
  list = λ plan yard roll first out r s a b j. (
    determined a.bytes b.bytes j,
    determined a.buffer b.buffer j,
    determined a.answer.no b.answer.no j,
    determined a.done b.done j,
    determined a.long b.long j,
    determined a.answer.at b.answer.at j,
  );
}
