-- Edits in order whose diffs are together no larger than those of n records: no larger than those of more.
--
-- orderly_more: that. apart_more: of parts that lie apart
use Prim.Native.Nat.{ℕ, ◌*◌, ◌≤◌, ◌^◌}
use native.Mathlib.Omega.{arith}
use mathlib.Core.List.{List}
use lib.IntN.{nat_abs}
use Rattle.grid.proofs.Sizes.{mass}
use Rattle.rules.specs.Histories.{Edit}
use Rattle.moments.specs.Window.{Apart, Orderly}
use Rattle.moments.specs.Window as window

pub orderly_more : {n m : ℕ} {es : List Edit} → n ≤ m → Orderly n es → Orderly m es
orderly_more {n} {m} {es} h o = record { ascends = o.ascends; light = (let l : mass nat_abs es ≤ n * 2 ^ 31 = o.light in omega arith) }

pub apart_more : {n m : ℕ} {l : List Edit} {k : ℕ} {fs es : List ℕ} → n ≤ m → Apart (Orderly n) l k fs es → Apart (Orderly m) l k fs es
apart_more h window.done = window.done
apart_more h (window.next {k} {f} a b c p r) = window.next {k = k} {f = f} a b c (orderly_more h p) (apart_more h r)
