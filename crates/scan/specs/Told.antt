-- What an answer of the scanner tells, as a reader of `form` says it. The place after what was read is the bytes from there on.
--
-- told: of a value that stands for another. told_place, told_num, told_time, told_diff: of a word, a number, a time, a diff
use Rattle.std.specs.Prelude.{ℕ, List, drop, ℤ, Option, Some, None}
use Rattle.std.proofs.Math.Option as read
use Rattle.times.specs.declared.time.PackedTime.{PackedTime}

abbrev pub told : {A B : Type 0} → (A → B) → List ℕ → Option (A × ℕ) → read.Option (B × List ℕ)
told f s None = read.none
told f s (Some x) = read.some (f x.0, drop x.1 s)

abbrev pub told_place : List ℕ → Option ℕ → read.Option (List ℕ)
told_place s None = read.none
told_place s (Some n) = read.some (drop n s)

abbrev pub told_num : List ℕ → Option (ℕ × ℕ) → read.Option (ℕ × List ℕ)
told_num s r = told (λ n. n) s r

abbrev pub told_time : List ℕ → Option (PackedTime × ℕ) → read.Option (ℕ × List ℕ)
told_time s r = told (λ t. t.0) s r

abbrev pub told_diff : List ℕ → Option (ℤ × ℕ) → read.Option (ℤ × List ℕ)
told_diff s r = told (λ z. z) s r
