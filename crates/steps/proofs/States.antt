-- A step, at states: what the parts give is the definition's step.
--
-- Fields upper n s t: each field of t is what the step of s at n makes of it; waiting joins and pended times unless a limit is passed
-- fields_step: then t is the step of s
use Prim.Native.Nat.{ℕ}
use mathlib.Core.Bool.{false, cond, ◌&&◌, ◌||◌}
use mathlib.Core.List.{List, [], ◌++◌, map}
use mathlib.Core.Option.{none}
use mathlib.Core.Path.{◌≡◌, sym, ◌∙◌, ap}
use lib.Dec.{ltb, eqb}
use lib.ListN.{length}
use borrow.Author.Tests.{lt-ltb}
use Rattle.grid.specs.Lists.{keep, past}
use Rattle.grid.specs.Times.{joined, meets, put, puts}
use Rattle.grid.specs.Frontiers.{beyond, short_of}
use Rattle.grid.proofs.Tests.{or_false_l, or_false_r, clash}
use Rattle.rules.specs.Histories.{time_of}
use Rattle.rules.specs.Discover.{most_moments, State, remaining, seeds_past, tracked_past, interesting, input_past, output_past, made, waiting_past, pended_past, moments_past, passes, acted, remeet, step}
use Rattle.joins.specs.Sets.{Grown, same, over}
use Rattle.steps.specs.Walks.{Steps}

grown_passes : {ts us l : List ℕ} → Grown ts us l → passes l ≡ passes (puts ts us)
unfolding passes
grown_passes (same e) = ap (λ k. ltb most_moments (length k)) e
grown_passes {ts} {us} {l} (over e f) = lt-ltb most_moments (length l) e ∙ sym (lt-ltb most_moments (length (puts ts us)) f)

grown_same : {ts us l : List ℕ} → Grown ts us l → passes l ≡ false → l ≡ puts ts us
unfolding passes
grown_same (same e) h = e
grown_same {ts} {us} {l} (over e f) h = clash (ltb most_moments (length l)) (lt-ltb most_moments (length l) e) h

module _ (upper : List ℕ) (n : ℕ) (s t : State) where
  pub record Fields : Type 0 where
    pub calm : s.over ≡ false
    pub seeds : t.seeds ≡ seeds_past n s
    pub pending : t.pending ≡ past (eqb n) s.pending
    pub input : t.input ≡ input_past upper n s
    pub output : t.output ≡ output_past upper n s
    pub waiting : Grown (keep (short_of upper) (made upper n s)) (past (eqb n) s.waiting) t.waiting
    pub pended : Grown (keep (beyond upper) (made upper n s)) (cond (beyond upper n && interesting n s) (put n s.pended) s.pended) t.pended
    pub moments : t.moments ≡ moments_past upper n s
    pub m : t.m ≡ meets (remaining t) none
    pub tracked : t.tracked ≡ puts (map (joined t.m) (tracked_past n s)) []
    pub limits : t.over ≡ (passes t.moments || (passes t.waiting || passes t.pended))

  over_is : Fields → t.over ≡ (step upper n s).over
  unfolding step remeet acted waiting_past pended_past
  over_is f = f.limits ∙ (λ k. passes (f.moments k) || (grown_passes f.waiting k || grown_passes f.pended k)) ∙ sym (rw f.calm)

  all_same : Fields → t.over ≡ false → t ≡ step upper n s
  unfolding step remeet acted waiting_past pended_past remaining
  all_same f o =
      let z : (passes t.moments || (passes t.waiting || passes t.pended)) ≡ false = sym f.limits ∙ o in
      let y : (passes t.waiting || passes t.pended) ≡ false = or_false_r (passes t.moments) _ z in
      let w : t.waiting ≡ waiting_past upper n s = grown_same f.waiting (or_false_l (passes t.waiting) _ y) in
      let p : t.pended ≡ pended_past upper n s = grown_same f.pended (or_false_r (passes t.waiting) _ y) in
      let m : t.m ≡ (step upper n s).m = f.m ∙ (λ k. meets ((f.seeds k).ahead ++ (f.pending k ++ (map time_of (f.input k).ahead ++ ((f.output k).ahead ++ w k)))) none) in
      let r : t.tracked ≡ (step upper n s).tracked = f.tracked ∙ (λ k. puts (map (joined (m k)) (tracked_past n s)) []) in
      let v : t.over ≡ (step upper n s).over = over_is f in
      λ k. record {
        seeds = f.seeds k;
        pending = f.pending k;
        input = f.input k;
        output = f.output k;
        waiting = w k;
        tracked = r k;
        m = m k;
        moments = f.moments k;
        pended = p k;
        over = v k;
      }

  pub fields_step : Fields → Steps upper n s t
  fields_step f = record { over_is = over_is f; same = all_same f }
