-- Appending a key with each of its times.
--
-- column_written: a part of a column was written. appends_few: there is room for all
use Prim.Native.Nat.{ℕ, ◌+◌, ◌-◌, ◌≤◌}
use native.Mathlib.Omega.{arith}
use mathlib.Core.List.{List, ◌++◌}
use mathlib.Core.Path.{◌≡◌, refl, ◌∙◌, ap}
use lib.ListN.{length, take, replicate}
use borrow.Rule.Slice.PartMut.{put_mid}
use Rattle.std.proofs.lemmas.List.{length-replicate}
use Rattle.std.proofs.lemmas.Slice.{take-put_mid, drop-put_mid}
use Rattle.backends.specs.Columns.{Column}
use Rattle.tallies.specs.Appends.{Appends}

pub column_written : {A : Type 0} (before new : List A) (at : ℕ) {x : List A} → at + length new ≤ length before → x ≡ new → Column before at new (put_mid at ((at + length new) - at) before x) (at + length new)
column_written before new at {x} h e =
    let l : length x ≡ length new = ap length e in
    record {
      end = refl;
      front = take-put_mid at ((at + length new) - at) before x (at + length new) (omega arith) (omega arith) ∙ ap (λ y. take at before ++ y) e;
      past = drop-put_mid at ((at + length new) - at) before x (at + length new) (omega arith) (omega arith) (omega arith);
    }

pub appends_few : {most k n : ℕ} {ts keys times x y : List ℕ} → n + length ts ≤ most → n + length ts ≤ length keys → n + length ts ≤ length times → x ≡ replicate (length ts) k → y ≡ ts
    → Appends most k n ts keys times (put_mid n ((n + length ts) - n) keys x) (put_mid n ((n + length ts) - n) times y) (n + length ts)
appends_few {k = k} {n} {ts} {keys} {times} {x} {y} h a b p q =
    let l : length (replicate (length ts) k) ≡ length ts = length-replicate (length ts) k in
    record {
      counted = refl;
      keys_are = λ _. rw l at (column_written keys (replicate (length ts) k) n (omega arith) p);
      times_are = λ _. column_written times ts n b q;
      full = λ g. absurd (omega arith);
    }
