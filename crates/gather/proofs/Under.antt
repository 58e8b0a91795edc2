-- What a meet is under, and in which order a load leaves edits.
--
-- meet-under: the meet of a list of times is at or below each of them. load_timely: what is loaded ascends by time
use Prim.Native.Nat.{ℕ}
use native.Mathlib.Omega.{arith}
use mathlib.Core.Bool.{true, ◌&&◌, not}
use mathlib.Core.List.{List, [], ◌∷◌, map}
use mathlib.Core.Logic.{⊎_elim}
use mathlib.Core.Option.{some}
use mathlib.Core.Path.{◌≡◌}
use lib.Dec.{leb, ltb}
use borrow.Author.Tests.{ltb-true, ltb-false, le-leb, not-true}
use Rattle.grid.specs.Times.{below, meets}
use Rattle.grid.proofs.Tests.{and_l, or_cases}
use Rattle.grid.proofs.Lists.{All, nil, all_imp, all_map}
use Rattle.grid.proofs.Times.{Below, true_below}
use Rattle.grid.proofs.Meets.{meets_under}
use Rattle.grid.proofs.Sort as order
use Rattle.grid.proofs.Consolidate.{Canon, none, more, canon_consolidate}
use Rattle.rules.specs.Histories.{Edit, time_of, earlier, joined_edit, load_edits}
use Rattle.rules.proofs.Histories.{strict_earlier}
use Rattle.gather.specs.Meets.{meet_of}
use Rattle.gather.specs.Loads.{Timely}

pub meet-under : (ts : List ℕ) → All (λ t. below (meet_of ts) t ≡ true) ts
unfolding meet_of meets
meet-under [] = nil
meet-under (t ∷ ts) = all_imp (λ (x : ℕ) (h : Below (meet_of (t ∷ ts)) x). true_below (meet_of (t ∷ ts)) x h) (meets_under (t ∷ ts))

earlier-time : (k l : ℕ × ℕ) → earlier k l ≡ true → leb k.0 l.0 ≡ true
earlier-time k l e =
    le-leb k.0 l.0
    (⊎_elim (λ t. let h = ltb-true k.0 l.0 t in omega arith)
    (λ t. ltb-false l.0 k.0 (not-true (ltb l.0 k.0) (and_l (not (ltb l.0 k.0)) (ltb k.1 l.1) t)))
    (or_cases (ltb k.0 l.0) (not (ltb l.0 k.0) && ltb k.1 l.1) e))

canon_timely : {es : List Edit} → Canon earlier es → Timely es
unfolding time_of
canon_timely none = order.none
canon_timely (more {y = y} z a c) = order.more (all_map time_of (all_imp (λ (x : Edit) t. earlier-time y.0 x.0 t) a)) (canon_timely c)

pub load_timely : (m : ℕ) (p : List Edit) → Timely (load_edits (some m) p)
unfolding load_edits
load_timely m p = canon_timely (canon_consolidate strict_earlier (map (joined_edit (some m)) p))
