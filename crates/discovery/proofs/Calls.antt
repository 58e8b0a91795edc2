-- discover_times as a call.
--
-- before-zero: where the status is 0 before any work, all that is lent is well. well_lent: so the work may begin
-- untouched: a refusal before any work leaves memory as it was
-- room_kept: what was found fits its slices. discovered: what was found, and zeros elsewhere
use Rattle.std.specs.Prelude.{Option, Some, None, Result, Err, IfOk}
use Prim.Native.Nat.{ℕ, suc, ◌-◌, ◌*◌, ◌≤◌}
use native.Mathlib.Omega.{arith}
use native.Mathlib.Nat.{sub-zero}
use mathlib.Core.Bool.{Bool, true, false, ◌&&◌}
use mathlib.Core.List.{List, [], ◌++◌}
use mathlib.Core.Path.{◌≡◌, refl, sym, ◌∙◌, ap}
use lib.Dec.{leb, eqb}
use lib.IntN.{ℤ, pos}
use lib.ListN.{length, take, replicate}
use lib.Seq.{length-take-le}
use borrow.Author.Tests.{leb-true, eqb-true}
use Rattle.grid.specs.Lists.{every}
use Rattle.grid.specs.Records.{most_records, in_range}
use Rattle.grid.proofs.Tests.{by-test, and_l, and_r}
use Rattle.rules.specs.Memory.{leaves}
use Rattle.rules.specs.Discover.{most_moments, State, discover}
use Rattle.consolidation.specs.Entries.{mass}
use Rattle.edits.specs.Edits.{edits}
use Rattle.discovery.specs.Calls.{most_edits, meets_size, found_size, tracked_size, input_fits, load_room, found_room, work_room, lent_well, Answer, refused, answer_of, answer, status_of, outcome, status_before, kept_of, moments_of, pended_of, published, Publishes, Clears, Discovers}
use Rattle.discover.specs.Finding.{Finds, limited, counted, Lending}
use Rattle.discover.specs.declared.Found.{Found}
use Rattle.discovery.specs.declared.call.Refusal.{Refusal}
use Rattle.discovery.specs.declared.call.Refusal.TheVariants.{Lengths, Diffs, Limit}
use Rattle.discover.proofs.Masses.{range_mass}
use Rattle.discover.proofs.Limits.{finds_few}

pub before-zero : (w : Bool) (ds : List ℤ) → 0 ≡ status_before w ds → (w ≡ true) × (every in_range ds ≡ true)
unfolding status_before
before-zero false ds e = absurd (omega (arith, e))
before-zero true ds e = (refl, by-test (every in_range ds) (λ r. r) (λ r. let q : 0 ≡ 14 = rw r at e in absurd (omega (arith, q))))

-- ---- what is lent well
module _ (seeds pending times values diffs output : ℕ) (h : input_fits seeds pending times values diffs output ≡ true) where
  record InputFits : Type 0 where
    pub seeds_few : seeds ≤ most_records
    pub pending_few : pending ≤ most_records
    pub times_few : times ≤ most_edits
    pub values_alike : values ≡ times
    pub diffs-alike : diffs ≡ times
    pub output_few : output ≤ most_records

  input_fitted : InputFits
  unfolding input_fits
  input_fitted =
      let h₂ = and_r (leb seeds most_records) _ h in
      let h₃ = and_r (leb pending most_records) _ h₂ in
      let h₄ = and_r (leb times most_edits) _ h₃ in
      let h₅ = and_r (eqb values times) _ h₄ in
      record {
        seeds_few = leb-true seeds most_records (and_l (leb seeds most_records) _ h);
        pending_few = leb-true pending most_records (and_l (leb pending most_records) _ h₂);
        times_few = leb-true times most_edits (and_l (leb times most_edits) _ h₃);
        values_alike = eqb-true values times (and_l (eqb values times) _ h₄);
        diffs-alike = eqb-true diffs times (and_l (eqb diffs times) _ h₅);
        output_few = leb-true output most_records (and_r (eqb diffs times) _ h₅);
      }

module _ (seeds times values diffs output column : ℕ) (h : load_room seeds times values diffs output column ≡ true) where
  record LoadRoom : Type 0 where
    pub seeds_room : most_records ≤ seeds
    pub times_room : most_edits ≤ times
    pub values_alike : values ≡ times
    pub diffs-alike : diffs ≡ times
    pub output_room : most_records ≤ output
    pub meets_room : meets_size ≤ column

  load_roomy : LoadRoom
  unfolding load_room
  load_roomy =
      let h₂ = and_r (leb most_records seeds) _ h in
      let h₃ = and_r (leb most_edits times) _ h₂ in
      let h₄ = and_r (eqb values times) _ h₃ in
      let h₅ = and_r (eqb diffs times) _ h₄ in
      record {
        seeds_room = leb-true most_records seeds (and_l (leb most_records seeds) _ h);
        times_room = leb-true most_edits times (and_l (leb most_edits times) _ h₂);
        values_alike = eqb-true values times (and_l (eqb values times) _ h₃);
        diffs-alike = eqb-true diffs times (and_l (eqb diffs times) _ h₄);
        output_room = leb-true most_records output (and_l (leb most_records output) _ h₅);
        meets_room = leb-true meets_size column (and_r (leb most_records output) _ h₅);
      }

module _ (waiting tracked moments pended : ℕ) (h : found_room waiting tracked moments pended ≡ true) where
  record FoundRoom : Type 0 where
    pub waiting_room : found_size ≤ waiting
    pub tracked_room : tracked_size ≤ tracked
    pub moments_room : found_size ≤ moments
    pub pended_room : found_size ≤ pended

  found_roomy : FoundRoom
  unfolding found_room
  found_roomy =
      let h₂ = and_r (leb found_size waiting) _ h in
      let h₃ = and_r (leb tracked_size tracked) _ h₂ in
      record {
        waiting_room = leb-true found_size waiting (and_l (leb found_size waiting) _ h);
        tracked_room = leb-true tracked_size tracked (and_l (leb tracked_size tracked) _ h₂);
        moments_room = leb-true found_size moments (and_l (leb found_size moments) _ h₃);
        pended_room = leb-true found_size pended (and_r (leb found_size moments) _ h₃);
      }

module _ (tracked work places wvalues wdiffs : ℕ) (h : work_room tracked work places wvalues wdiffs ≡ true) where
  record WorkRoom : Type 0 where
    pub for_tracked : tracked ≤ work
    pub room_work : most_edits ≤ work
    pub places_room : most_edits ≤ places
    pub values_room : most_edits ≤ wvalues
    pub diffs_room : most_edits ≤ wdiffs

  work_roomy : WorkRoom
  unfolding work_room
  work_roomy =
      let h₂ = and_r (leb tracked work) _ h in
      let h₃ = and_r (leb most_edits work) _ h₂ in
      let h₄ = and_r (leb most_edits places) _ h₃ in
      record {
        for_tracked = leb-true tracked work (and_l (leb tracked work) _ h);
        room_work = leb-true most_edits work (and_l (leb most_edits work) _ h₂);
        places_room = leb-true most_edits places (and_l (leb most_edits places) _ h₃);
        values_room = leb-true most_edits wvalues (and_l (leb most_edits wvalues) _ h₄);
        diffs_room = leb-true most_edits wdiffs (and_r (leb most_edits wvalues) _ h₄);
      }

module _ (seedtimes pending intimes invalues : List ℕ) (indiffs : List ℤ) (outtimes seeds times values : List ℕ) (diffs : List ℤ) (output column waiting tracked moments pended work places wvalues : List ℕ) (wdiffs : List ℤ) where
  pub well_lent : (lent_well (length seedtimes) (length pending) (length intimes) (length invalues) (length indiffs) (length outtimes) (length seeds) (length times) (length values) (length diffs) (length output) (length column) (length waiting) (length tracked) (length moments) (length pended) (length work) (length places) (length wvalues) (length wdiffs) ≡ true) × (every in_range indiffs ≡ true)
      → Lending seedtimes pending intimes invalues indiffs outtimes seeds times values diffs output column waiting tracked moments pended work places wvalues wdiffs
  unfolding lent_well
  well_lent (h, d) =
      let h₂ = and_r (input_fits (length seedtimes) (length pending) (length intimes) (length invalues) (length indiffs) (length outtimes)) _ h in
      let h₃ = and_r (load_room (length seeds) (length times) (length values) (length diffs) (length output) (length column)) _ h₂ in
      let a = input_fitted (length seedtimes) (length pending) (length intimes) (length invalues) (length indiffs) (length outtimes) (and_l (input_fits (length seedtimes) (length pending) (length intimes) (length invalues) (length indiffs) (length outtimes)) _ h) in
      let b = load_roomy (length seeds) (length times) (length values) (length diffs) (length output) (length column) (and_l (load_room (length seeds) (length times) (length values) (length diffs) (length output) (length column)) _ h₂) in
      let c = found_roomy (length waiting) (length tracked) (length moments) (length pended) (and_l (found_room (length waiting) (length tracked) (length moments) (length pended)) _ h₃) in
      let e = work_roomy (length tracked) (length work) (length places) (length wvalues) (length wdiffs) (and_r (found_room (length waiting) (length tracked) (length moments) (length pended)) _ h₃) in
      let a₁ : length seedtimes ≤ most_records = a.seeds_few in
      let a₂ : length pending ≤ most_records = a.pending_few in
      let a₃ : length intimes ≤ most_edits = a.times_few in
      let a₄ : length indiffs ≡ length intimes = a.diffs-alike in
      let a₅ : length outtimes ≤ most_records = a.output_few in
      let b₁ : most_records ≤ length seeds = b.seeds_room in
      let b₂ : most_edits ≤ length times = b.times_room in
      let b₃ : most_records ≤ length output = b.output_room in
      let b₄ : meets_size ≤ length column = b.meets_room in
      let c₁ : found_size ≤ length waiting = c.waiting_room in
      let c₂ : tracked_size ≤ length tracked = c.tracked_room in
      let c₃ : found_size ≤ length moments = c.moments_room in
      let c₄ : found_size ≤ length pended = c.pended_room in
      let e₁ : most_edits ≤ length work = e.room_work in
      let e₂ : most_edits ≤ length places = e.places_room in
      let e₃ : most_edits ≤ length wvalues = e.values_room in
      let e₄ : most_edits ≤ length wdiffs = e.diffs_room in
      let w : mass indiffs ≤ length indiffs * 2147483648 = range_mass indiffs d in
      record {
        input = record {
          lent = record { alike-second = a.values_alike; alike-diff = a₄; bounded = omega arith };
          alike = record { values = b.values_alike; diffs = b.diffs-alike };
          room = omega arith;
          room_joins = omega arith;
          room_places = omega arith;
        };
        seeds_room = omega arith;
        output_room = omega arith;
        meets_room = omega arith;
        for_seeds = omega arith;
        for_output = omega arith;
        for_tracked = e.for_tracked;
        for_values = omega arith;
        for_diffs = omega arith;
        waiting_room = omega arith;
        pended_room = omega arith;
        moments_room = omega arith;
        tracked_room = omega arith;
      }

-- ---- the answers
module _ (upper seedtimes pending intimes invalues : List ℕ) (indiffs : List ℤ) (outtimes : List ℕ) (seeds times values : List ℕ) (diffs : List ℤ) (output column waiting tracked moments pended work places wvalues : List ℕ) (wdiffs : List ℤ) where
  refuses : (e : Refusal) → status_of e ≡ 0 → ⊥
  refuses Lengths z = omega (arith, z)
  refuses Diffs z = omega (arith, z)
  refuses Limit z = omega (arith, z)

  pub untouched : (w : Bool) (e : Refusal) → status_of e ≡ status_before w indiffs → Discovers (answer w upper seedtimes pending intimes invalues indiffs outtimes) seeds times values diffs output column waiting tracked moments pended work places wvalues wdiffs seeds times values diffs output column waiting tracked moments pended work places wvalues wdiffs (Err e)
  unfolding status_before answer refused leaves
  untouched false e z = record { status_is = z; moments_counted = tt; pended_counted = tt; moments_are = refl; pended_are = refl; seeds_left = refl; times_left = refl; values_left = refl; diffs_left = refl; output_left = refl; meets_left = refl; waiting_left = refl; tracked_left = refl; work_left = refl; places_left = refl; wvalues_left = refl; wdiffs_left = refl }
  untouched true e z =
      by-test (every in_range indiffs) (λ r. absurd (refuses e (rw r at z)))
      (λ r. rw r (record { status_is = rw r at z; moments_counted = tt; pended_counted = tt; moments_are = refl; pended_are = refl; seeds_left = refl; times_left = refl; values_left = refl; diffs_left = refl; output_left = refl; meets_left = refl; waiting_left = refl; tracked_left = refl; work_left = refl; places_left = refl; wvalues_left = refl; wdiffs_left = refl }))

pub room_kept : (upper : List ℕ) {seedtimes pending intimes invalues : List ℕ} {indiffs : List ℤ} {outtimes seeds times values : List ℕ} {diffs : List ℤ} {output column waiting tracked moments pended work places wvalues : List ℕ} {wdiffs : List ℤ} {moments₁ pended₁ : List ℕ} {f : Option Found}
    → Lending seedtimes pending intimes invalues indiffs outtimes seeds times values diffs output column waiting tracked moments pended work places wvalues wdiffs
    → Finds (discover upper seedtimes pending (edits intimes invalues indiffs) outtimes) moments₁ pended₁ f → length moments₁ ≡ length moments → length pended₁ ≡ length pended
    → (kept_of moments_of f ≤ length moments₁) × (kept_of pended_of f ≤ length pended₁)
room_kept upper L (limited o) a b = (omega arith, omega arith)
room_kept upper {seedtimes} {pending} {intimes} {invalues} {indiffs} {outtimes} {moments = moments} {pended = pended₀} {moments₁ = moments₁} {pended₁ = pended₁} L (counted f o n q) a b =
    let m : suc most_moments ≤ length moments = L.moments_room in
    let p : suc most_moments ≤ length pended₀ = L.pended_room in
    let r = finds_few upper seedtimes pending (edits intimes invalues indiffs) outtimes (counted f o n q) (omega arith) (omega arith) in
    (omega (arith, r.0), omega (arith, r.1))

-- what was found, told as an answer
record Told (f : Option Found) (moments pended : List ℕ) (A : Answer) : Type 0 where
  pub status_is : outcome (published f) ≡ A.status
  pub touched : (leb 11 A.status && leb A.status 17) ≡ false
  pub moments_are : take (kept_of moments_of f) moments ≡ A.moments
  pub pended_are : take (kept_of pended_of f) pended ≡ A.pended

told : {D : State} {moments pended : List ℕ} {f : Option Found} → Finds D moments pended f → Told f moments pended (answer_of D)
unfolding answer_of refused
told (limited o) = rw o (record { status_is = refl; touched = refl; moments_are = refl; pended_are = refl })
told (counted f o m p) = rw o (record { status_is = refl; touched = refl; moments_are = m; pended_are = p })

counts : (n : Found → ℕ) (f : Option Found) {k : ℕ} → kept_of n f ≡ k → IfOk (published f) (λ g. n g ≡ k)
counts n None e = tt
counts n (Some g) e = e

module _ (A : Answer) (t : (leb 11 A.status && leb A.status 17) ≡ false) where
  left_zero : {X : Type 0} (z : X) (s s₁ s' : List X) → length s₁ ≡ length s → s' ≡ replicate (length s₁) z → s' ≡ leaves z A.status s []
  unfolding leaves
  left_zero z s s₁ s' l e = e ∙ rw (t, l, sub-zero)

  left_found : (s s₁ s' xs : List ℕ) (k : ℕ) → length s₁ ≡ length s → k ≤ length s₁ → take k s₁ ≡ xs → s' ≡ take k s₁ ++ replicate (length s₁ - k) 0 → (k ≡ length xs) × (s' ≡ leaves 0 A.status s xs)
  unfolding leaves
  left_found s s₁ s' xs k l h e q =
      let n : k ≡ length xs = sym (length-take-le k s₁ h) ∙ ap length e in
      (n, q ∙ rw (t, e, l, n))

  discovered_at : {f : Option Found} {seeds times values : List ℕ} {diffs : List ℤ} {output column waiting tracked moments pended work places wvalues : List ℕ} {wdiffs : List ℤ} {seeds₁ times₁ values₁ : List ℕ} (diffs₁ : List ℤ) {output₁ column₁ waiting₁ tracked₁ moments₁ pended₁ work₁ places₁ wvalues₁ : List ℕ} (wdiffs₁ : List ℤ) {seeds' times' values' : List ℕ} {diffs' : List ℤ} {output' column' waiting' tracked' moments' pended' work' places' wvalues' : List ℕ} {wdiffs' : List ℤ} {r : Result Found Refusal}
      → Told f moments₁ pended₁ A → (kept_of moments_of f ≤ length moments₁) × (kept_of pended_of f ≤ length pended₁)
      → length seeds₁ ≡ length seeds → length times₁ ≡ length times → length values₁ ≡ length values → length diffs₁ ≡ length diffs → length output₁ ≡ length output → length column₁ ≡ length column → length waiting₁ ≡ length waiting → length tracked₁ ≡ length tracked → length moments₁ ≡ length moments → length pended₁ ≡ length pended → length work₁ ≡ length work → length places₁ ≡ length places → length wvalues₁ ≡ length wvalues → length wdiffs₁ ≡ length wdiffs
      → Publishes f moments₁ pended₁ moments' pended' r → Clears seeds₁ output₁ column₁ waiting₁ tracked₁ seeds' output' column' waiting' tracked' → Clears times₁ values₁ work₁ places₁ wvalues₁ times' values' work' places' wvalues'
      → (diffs' ≡ replicate (length diffs₁) (pos 0)) × (wdiffs' ≡ replicate (length wdiffs₁) (pos 0))
      → Discovers A seeds times values diffs output column waiting tracked moments pended work places wvalues wdiffs seeds' times' values' diffs' output' column' waiting' tracked' moments' pended' work' places' wvalues' wdiffs' r
  discovered_at {f} {seeds} {times} {values} {diffs} {output} {column} {waiting} {tracked} {moments} {pended} {work} {places} {wvalues} {wdiffs} {seeds₁} {times₁} {values₁} diffs₁ {output₁} {column₁} {waiting₁} {tracked₁} {moments₁} {pended₁} {work₁} {places₁} {wvalues₁} wdiffs₁ {seeds'} {times'} {values'} {diffs'} {output'} {column'} {waiting'} {tracked'} {moments'} {pended'} {work'} {places'} {wvalues'} {wdiffs'} T K l-seeds l-times l-values l-diffs l-output l-column l-waiting l-tracked l-moments l-pended l-work l-places l-wvalues l-wdiffs P C₁ C₂ Z =
      let m = left_found moments moments₁ moments' A.moments (kept_of moments_of f) l-moments K.0 T.moments_are P.moments_are in
      let p = left_found pended pended₁ pended' A.pended (kept_of pended_of f) l-pended K.1 T.pended_are P.pended_are in
      record {
        status_is = ap outcome P.result_is ∙ T.status_is;
        moments_counted = rw P.result_is (counts moments_of f m.0);
        pended_counted = rw P.result_is (counts pended_of f p.0);
        moments_are = m.1;
        pended_are = p.1;
        seeds_left = left_zero 0 seeds seeds₁ seeds' l-seeds C₁.first;
        times_left = left_zero 0 times times₁ times' l-times C₂.first;
        values_left = left_zero 0 values values₁ values' l-values C₂.second;
        diffs_left = left_zero (pos 0) diffs diffs₁ diffs' l-diffs Z.0;
        output_left = left_zero 0 output output₁ output' l-output C₁.second;
        meets_left = left_zero 0 column column₁ column' l-column C₁.third;
        waiting_left = left_zero 0 waiting waiting₁ waiting' l-waiting C₁.fourth;
        tracked_left = left_zero 0 tracked tracked₁ tracked' l-tracked C₁.fifth;
        work_left = left_zero 0 work work₁ work' l-work C₂.third;
        places_left = left_zero 0 places places₁ places' l-places C₂.fourth;
        wvalues_left = left_zero 0 wvalues wvalues₁ wvalues' l-wvalues C₂.fifth;
        wdiffs_left = left_zero (pos 0) wdiffs wdiffs₁ wdiffs' l-wdiffs Z.1;
      }

module _ (upper seedtimes pending intimes invalues : List ℕ) (indiffs : List ℤ) (outtimes : List ℕ) where
  answer_is : (w : Bool) → (w ≡ true) × (every in_range indiffs ≡ true) → answer w upper seedtimes pending intimes invalues indiffs outtimes ≡ answer_of (discover upper seedtimes pending (edits intimes invalues indiffs) outtimes)
  unfolding answer
  answer_is w h = rw (h.0, h.1)

  pub discovered : (w : Bool) {f : Option Found} {seeds times values : List ℕ} {diffs : List ℤ} {output column waiting tracked moments pended work places wvalues : List ℕ} {wdiffs : List ℤ} {seeds₁ times₁ values₁ : List ℕ} (diffs₁ : List ℤ) {output₁ column₁ waiting₁ tracked₁ moments₁ pended₁ work₁ places₁ wvalues₁ : List ℕ} (wdiffs₁ : List ℤ) {seeds' times' values' : List ℕ} {diffs' : List ℤ} {output' column' waiting' tracked' moments' pended' work' places' wvalues' : List ℕ} {wdiffs' : List ℤ} {r : Result Found Refusal}
      → (w ≡ true) × (every in_range indiffs ≡ true) → Finds (discover upper seedtimes pending (edits intimes invalues indiffs) outtimes) moments₁ pended₁ f
      → (kept_of moments_of f ≤ length moments₁) × (kept_of pended_of f ≤ length pended₁)
      → length seeds₁ ≡ length seeds → length times₁ ≡ length times → length values₁ ≡ length values → length diffs₁ ≡ length diffs → length output₁ ≡ length output → length column₁ ≡ length column → length waiting₁ ≡ length waiting → length tracked₁ ≡ length tracked → length moments₁ ≡ length moments → length pended₁ ≡ length pended → length work₁ ≡ length work → length places₁ ≡ length places → length wvalues₁ ≡ length wvalues → length wdiffs₁ ≡ length wdiffs
      → Publishes f moments₁ pended₁ moments' pended' r → Clears seeds₁ output₁ column₁ waiting₁ tracked₁ seeds' output' column' waiting' tracked' → Clears times₁ values₁ work₁ places₁ wvalues₁ times' values' work' places' wvalues'
      → (diffs' ≡ replicate (length diffs₁) (pos 0)) × (wdiffs' ≡ replicate (length wdiffs₁) (pos 0))
      → Discovers (answer w upper seedtimes pending intimes invalues indiffs outtimes) seeds times values diffs output column waiting tracked moments pended work places wvalues wdiffs seeds' times' values' diffs' output' column' waiting' tracked' moments' pended' work' places' wvalues' wdiffs' r
  discovered w diffs₁ wdiffs₁ h F K l-seeds l-times l-values l-diffs l-output l-column l-waiting l-tracked l-moments l-pended l-work l-places l-wvalues l-wdiffs P C₁ C₂ Z =
      let T = told F in
      rw (answer_is w h) (discovered_at (answer_of (discover upper seedtimes pending (edits intimes invalues indiffs) outtimes)) T.touched diffs₁ wdiffs₁ T K l-seeds l-times l-values l-diffs l-output l-column l-waiting l-tracked l-moments l-pended l-work l-places l-wvalues l-wdiffs P C₁ C₂ Z)
