-- The theorems of specs/Theorems.antt, proved: the starred cases by computing, and a folder for each section of document 01.
-- Under Promises, those of specs/Promises.antt.
pub mod Cases
pub mod Answers
pub mod Numbers
pub mod Plans
pub mod States
pub mod Ticks
pub mod Runs
pub mod Promises
