-- The laws of discover_times, about what the call leaves.
--
-- discovered_lawful: where there is an answer, the moments and the pended times have the laws that the rules prove of the definition. The pending times of an accepted call ascend
use Rattle.std.specs.Prelude.{Ok}
use Prim.Native.Nat.{ℕ}
use native.Mathlib.Omega.{arith}
use mathlib.Core.Bool.{Bool, true, false}
use mathlib.Core.List.{List}
use mathlib.Core.Path.{◌≡◌, sym}
use lib.Dec.{ltb}
use lib.IntN.{ℤ}
use lib.ListN.{length, take}
use lib.Seq.{take_at}
use Rattle.grid.specs.Lists.{every, ascending}
use Rattle.grid.specs.Records.{in_range}
use Rattle.grid.proofs.Tests.{by-test}
use Rattle.rules.specs.Discover.{State, discover}
use Rattle.rules.specs.Memory.{leaves}
use Rattle.rules.proofs.Joins.{Lawful, discover_lawful}
use Rattle.edits.specs.Edits.{edits}
use Rattle.discover.proofs.Laws.{answered}
use Rattle.discovery.specs.Calls.{refused, answer_of, answer, Discovers}
use Rattle.discover.specs.declared.Found.{Found}

front_left : (s xs : List ℕ) {s' : List ℕ} {k : ℕ} → s' ≡ leaves 0 0 s xs → k ≡ length xs → take k s' ≡ xs
unfolding leaves
front_left s xs {k = k} e n = rw e (take_at xs _ k (sym n))

module _ (upper seedtimes pending intimes invalues : List ℕ) (indiffs : List ℤ) (outtimes : List ℕ) where
  abbrev D : State
  D = discover upper seedtimes pending (edits intimes invalues indiffs) outtimes

  -- status 0 is given only where no limit was passed
  answer-zero : (well : Bool) → (answer well upper seedtimes pending intimes invalues indiffs outtimes).status ≡ 0
      → (D.over ≡ false) × (answer well upper seedtimes pending intimes invalues indiffs outtimes ≡ record { status = 0; moments = D.moments; pended = D.pended })
  unfolding answer answer_of refused
  answer-zero false e = absurd (omega (arith, e))
  answer-zero true e =
      by-test (every in_range indiffs) (λ r. by-test D.over (λ o. let z : 18 ≡ 0 = rw (r, o) at e in absurd (omega (arith, z))) (λ o. (o, rw (r, o))))
      (λ r. let z : 14 ≡ 0 = rw r at e in absurd (omega (arith, z)))

  pub discovered_lawful : (well : Bool) {seeds times values : List ℕ} {diffs : List ℤ} {output column waiting tracked moments pended work places wvalues : List ℕ} {wdiffs : List ℤ} {seeds' times' values' : List ℕ} {diffs' : List ℤ} {output' column' waiting' tracked' moments' pended' work' places' wvalues' : List ℕ} {wdiffs' : List ℤ} {f : Found}
      → Discovers (answer well upper seedtimes pending intimes invalues indiffs outtimes) seeds times values diffs output column waiting tracked moments pended work places wvalues wdiffs seeds' times' values' diffs' output' column' waiting' tracked' moments' pended' work' places' wvalues' wdiffs' (Ok f) → ascending ltb pending ≡ true
      → Lawful upper seedtimes pending (answered D (take f.moments moments') (take f.pended pended'))
  discovered_lawful well {moments = moments} {pended = pended₀} h a =
      let q = answer-zero well (sym h.status_is) in
      let m = front_left moments D.moments (rw q.1 at h).moments_are (rw q.1 at h).moments_counted in
      let p = front_left pended₀ D.pended (rw q.1 at h).pended_are (rw q.1 at h).pended_counted in
      rw (m, p) (discover_lawful upper seedtimes pending (edits intimes invalues indiffs) outtimes a q.0)
