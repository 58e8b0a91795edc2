-- The start of a walk: what was loaded is the state that the definition starts from.
--
-- start_state: the columns hold the definition's first state. start-kept: what the walk keeps holds at its start
-- parts_meet: the parts of the column of meets. prepared_kept: so what the walk keeps holds where all is loaded. at_first_state: its state there
-- loaded-start: after the loads that is the definition's first state. loaded_prepared: all that the walk asks
use Prim.Native.Nat.{ℕ, suc, ◌+◌, ◌-◌, ◌≤◌}
use native.Mathlib.Omega.{arith}
use mathlib.Core.Bool.{false}
use native.Mathlib.Nat.{sub-zero}
use mathlib.Core.List.{List, [], ◌++◌, append_assoc, append-nil, map}
use mathlib.Core.Option.{Option, none}
use mathlib.Core.Path.{◌≡◌, refl, sym, ◌∙◌, ap}
use lib.IntN.{ℤ}
use lib.ListN.{length, take, drop, length-append, take-append-drop}
use lib.Seq.{length-take-le, take_at, drop_at}
use Rattle.grid.specs.Times.{meets}
use Rattle.times.specs.Meets.{optional}
use Rattle.times.specs.Meets.{Meet}
use Rattle.rules.specs.Histories.{Edit, load_times, load_edits, suffix_meets}
use Rattle.rules.specs.Discover.{most_moments, start}
use Rattle.histories.specs.Places.{history_of}
use Rattle.histories.specs.Suffixes.{Suffixes}
use Rattle.histories.proofs.Suffixes.{length-suffix_meets, meets_suffix}
use Rattle.consolidation.specs.Entries.{mass, most_mass}
use Rattle.edits.specs.Edits.{edits, Alike}
use Rattle.edits.proofs.Edits.{edits-take, diffs-edits}
use Rattle.pops.specs.Standing.{weight}
use Rattle.steps.specs.Walks.{state_of, Worked}
use Rattle.pops.specs.declared.Walk.{Walk}
use Rattle.steps.proofs.Weights.{weight_load}
use Rattle.discover.specs.Walking.{Kept, first_walk, first_state}
use Rattle.discover.specs.Finding.{Loading, all_meets, Lending, Prepared}
use Rattle.discover.specs.declared.loads.Loaded.{Loaded}

module _ (seedtimes pending : List ℕ) (input : List Edit) (outtimes seeds times values : List ℕ) (diffs : List ℤ) (output waiting tracked moments pended : List ℕ) (m : Meet) where
  pub start_state : optional m ≡ meets (seedtimes ++ pending) none → seeds ≡ load_times none seedtimes → edits times values diffs ≡ load_edits (optional m) input → output ≡ load_times (optional m) outtimes
      → state_of seeds pending times values diffs output waiting tracked moments pended (first_walk m) ≡ start seedtimes pending input outtimes
  unfolding state_of history_of start
  start_state e s i o = λ k. record {
    seeds = record { ahead = s k; buffer = [] };
    pending = pending;
    input = record { ahead = (i ∙ ap (λ m. load_edits m input) e) k; buffer = [] };
    output = record { ahead = (o ∙ ap (λ m. load_times m outtimes) e) k; buffer = [] };
    waiting = [];
    tracked = [];
    m = e k;
    moments = [];
    pended = [];
    over = false;
  }

pub start-kept : {seeds seedm pending pendm times values : List ℕ} {diffs : List ℤ} {inputm output outputm waiting tracked moments pended work places wvalues : List ℕ} {wdiffs : List ℤ} (m : Meet)
    → Alike times values diffs → weight (edits times values diffs) ≤ most_mass
    → Suffixes seeds seedm 0 → Suffixes pending pendm 0 → Suffixes times inputm 0 → Suffixes output outputm 0
    → suc most_moments ≤ length waiting → suc most_moments ≤ length pended → suc most_moments ≤ length moments → length pending + suc most_moments ≤ length tracked
    → Worked seeds times output tracked work places wvalues wdiffs
    → Kept seeds seedm pending pendm times values diffs inputm output outputm waiting tracked moments pended work places wvalues wdiffs (first_walk m)
unfolding weight mass
start-kept {seeds} {seedm} {pending} m a l s p i o w e k t work =
    record {
      standing = record {
        seeds_placed = record { behind = omega arith; within = omega arith };
        pending_within = omega arith;
        input_placed = record { behind = omega arith; within = omega arith };
        input_alike = a;
        input_light = omega arith;
        output_placed = record { behind = omega arith; within = omega arith };
      };
      known = record { of_seeds = s; of_pending = p; of_input = i; of_output = o };
      roomy = record {
        waiting_set = record { few = omega arith; long = w; ascends = refl };
        pended_set = record { few = omega arith; long = e; ascends = refl };
        moments_few = omega arith;
        moments_long = k;
        tracked_room = omega arith;
      };
      worked = work;
    }

-- ---- the parts of the column of meets
module _ (xs ys zs ms : List ℕ) (e a b : ℕ) where
  part_at : take e ms ≡ xs ++ (ys ++ zs) → length xs ≡ a → length ys ≡ b - a → take (b - a) (drop a ms) ≡ ys
  part_at q l n =
      let d : drop a ms ≡ ys ++ (zs ++ drop e ms) =
      ap (drop a) (sym (take-append-drop e ms) ∙ ap (λ l. l ++ drop e ms) q ∙ append_assoc xs (ys ++ zs) (drop e ms)) ∙ drop_at xs (ys ++ zs ++ drop e ms) a l ∙ append_assoc ys zs (drop e ms) in
      ap (take (b - a)) d ∙ take_at ys (zs ++ drop e ms) (b - a) n

suffixes_of : (ts : List ℕ) {ms : List ℕ} → ms ≡ suffix_meets ts → Suffixes ts ms 0
suffixes_of ts {ms} e =
    let n : length (suffix_meets ts) ≡ length ts = length-suffix_meets ts in
    record { fits = rw e (omega arith); tells = λ i k l. rw e (meets_suffix ts i l) }

module _ (seeds pending times output column : List ℕ) (a b d : ℕ) where
  -- the parts tell the meets of seeds, pending, input and output
  pub parts_meet : take d column ≡ all_meets seeds pending times output → a ≡ length seeds + length pending → b ≡ a + length times → d ≡ b + length output
      → Suffixes seeds (take (length seeds - 0) column) 0 × (Suffixes pending (take (a - length seeds) (drop (length seeds) column)) 0 × (Suffixes times (take (b - a) (drop a column)) 0 × Suffixes output (take (d - b) (drop b column)) 0))
  unfolding all_meets
  parts_meet q ea eb ed =
      let S = suffix_meets seeds in
      let P = suffix_meets pending in
      let I = suffix_meets times in
      let O = suffix_meets output in
      let s : length S ≡ length seeds = length-suffix_meets seeds in
      let p : length P ≡ length pending = length-suffix_meets pending in
      let i : length I ≡ length times = length-suffix_meets times in
      let o : length O ≡ length output = length-suffix_meets output in
      let sp : length (S ++ P) ≡ a = length-append S P ∙ rw (s, p) (sym ea) in
      let spi : length (S ++ P ++ I) ≡ b = length-append (S ++ P) I ∙ rw (sp, i) (sym eb) in
      let q₃ : take d column ≡ S ++ P ++ (I ++ O) = q ∙ sym (append_assoc S P (I ++ O)) in
      let q₄ : take d column ≡ S ++ P ++ I ++ (O ++ []) = q₃ ∙ sym (append_assoc (S ++ P) I O) ∙ ap (λ l. S ++ P ++ I ++ l) (sym (append-nil O)) in
      (suffixes_of seeds (part_at [] S (P ++ (I ++ O)) column d 0 (length seeds) q refl (omega arith)), (suffixes_of pending (part_at S P (I ++ O) column d (length seeds) a q s (omega arith)), (suffixes_of times (part_at (S ++ P) I O column d a b q₃ sp (omega arith)), suffixes_of output (part_at (S ++ P ++ I) O [] column d b d q₄ spi (omega arith)))))

-- ---- what a walk from its start asks
module _ {pending column : List ℕ} {scount count ocount : ℕ} {seeds times values : List ℕ} {diffs : List ℤ} {output waiting tracked moments pended work places wvalues : List ℕ} {wdiffs : List ℤ}
    (P : Prepared pending column scount count ocount seeds times values diffs output waiting tracked moments pended work places wvalues wdiffs) (m : Meet) where
  abbrev a : ℕ
  a = scount + length pending

  pub prepared_kept : {p : Walk} → p ≡ first_walk m
      → Kept (take (scount - 0) seeds) (take (scount - 0) column) pending (take (a - scount) (drop scount column)) (take (count - 0) times) (take (count - 0) values) (take (count - 0) diffs) (take (a + count - a) (drop a column)) (take (ocount - 0) output) (take (a + count + ocount - (a + count)) (drop (a + count) column)) waiting tracked moments pended work places wvalues wdiffs p
  prepared_kept e =
      let ns : length (take scount seeds) ≡ scount = length-take-le scount seeds P.seeds_within in
      let nt : length (take count times) ≡ count = length-take-le count times P.input_within in
      let no : length (take ocount output) ≡ ocount = length-take-le ocount output P.output_within in
      let va : length values ≡ length times = P.input_alike.values in
      let da : length diffs ≡ length times = P.input_alike.diffs in
      let it : count ≤ length times = P.input_within in
      let nv : length (take count values) ≡ count = length-take-le count values (omega arith) in
      let nd : length (take count diffs) ≡ count = length-take-le count diffs (omega arith) in
      let h = parts_meet (take scount seeds) pending (take count times) (take ocount output) column a (a + count) (a + count + ocount) P.meets_are (rw ns) (rw nt) (rw no) in
      let w₁ : scount ≤ length work = P.for_seeds in
      let w₂ : count ≤ length work = P.for_times in
      let w₃ : ocount ≤ length work = P.for_output in
      let w₅ : count ≤ length places = P.for_places in
      let w₆ : count ≤ length wvalues = P.for_values in
      let w₇ : count ≤ length wdiffs = P.for_diffs in
      simp (sub-zero, e) (start-kept m (record { values = nv ∙ sym nt; diffs = nd ∙ sym nt }) (rw (edits-take times values diffs P.input_alike count) P.input_light)
      (rw (ns, sub-zero) at h).0 (rw ns at h).1.0 h.1.1.0 h.1.1.1
      P.waiting_room P.pended_room P.moments_room P.tracked_room
      (record { for_seeds = omega arith; for_times = omega arith; for_output = omega arith; for_tracked = P.for_tracked; for_places = omega arith; for_values = omega arith; for_diffs = omega arith }))

module _ (seeds pending times values : List ℕ) (diffs : List ℤ) (output waiting tracked moments pended : List ℕ) (scount count ocount : ℕ) (m : Meet) where
  -- where nothing was replayed, what waits and what was found does not matter
  pub at_first_state : {p : Walk} → p ≡ first_walk m → state_of (take (scount - 0) seeds) pending (take (count - 0) times) (take (count - 0) values) (take (count - 0) diffs) (take (ocount - 0) output) waiting tracked moments pended p ≡ first_state (take scount seeds) pending (take count times) (take count values) (take count diffs) (take ocount output) m
  unfolding state_of
  at_first_state e = simp (sub-zero, e)

-- ---- from the loads
module _ {seedtimes pending intimes invalues : List ℕ} {indiffs : List ℤ} {outtimes seeds times values : List ℕ} {diffs : List ℤ} {output column waiting tracked moments pended work places wvalues : List ℕ} {wdiffs : List ℤ}
    (L : Lending seedtimes pending intimes invalues indiffs outtimes seeds times values diffs output column waiting tracked moments pended work places wvalues wdiffs) where
  loaded_light : (o : Option ℕ) → weight (load_edits o (edits intimes invalues indiffs)) ≤ most_mass
  unfolding weight
  loaded_light o =
      let i : mass indiffs ≤ most_mass = L.input.lent.bounded in
      let e : map (λ (e : Edit). e.1) (edits intimes invalues indiffs) ≡ indiffs = diffs-edits intimes invalues indiffs (record { values = L.input.lent.alike-second; diffs = L.input.lent.alike-diff }) in
      omega (arith, weight_load o (edits intimes invalues indiffs), ap mass e)

  module _ {seeds' output' : List ℕ} (times' values' : List ℕ) (diffs' : List ℤ) (l : Loaded) (R : Loading seedtimes pending (edits intimes invalues indiffs) (length intimes) outtimes seeds' (edits times' values' diffs') output' l)
      (et : length times' ≡ length times) (ev : length values' ≡ length values) (ed : length diffs' ≡ length diffs) where
    loaded-alike : Alike times' values' diffs'
    loaded-alike = record { values = ev ∙ L.input.alike.values ∙ sym et; diffs = ed ∙ L.input.alike.diffs ∙ sym et }

    pub loaded-start : first_state (take (length seedtimes) seeds') pending (take l.count times') (take l.count values') (take l.count diffs') (take (length outtimes) output') l.m ≡ start seedtimes pending (edits intimes invalues indiffs) outtimes
    loaded-start =
        start_state seedtimes pending (edits intimes invalues indiffs) outtimes (take (length seedtimes) seeds') (take l.count times') (take l.count values') (take l.count diffs') (take (length outtimes) output') [] [] [] [] l.m
        R.m_is R.seeds_are (edits-take times' values' diffs' loaded-alike l.count ∙ R.input_is) R.output_is

    pub loaded_prepared : {column' work' places' : List ℕ} → length seeds' ≡ length seeds → length output' ≡ length output → length column' ≡ length column → length work' ≡ length work → length places' ≡ length places
        → take (length seedtimes + length pending + l.count + length outtimes) column' ≡ all_meets (take (length seedtimes) seeds') pending (take l.count times') (take (length outtimes) output')
        → Prepared pending column' (length seedtimes) l.count (length outtimes) seeds' times' values' diffs' output' waiting tracked moments pended work' places' wvalues wdiffs
    loaded_prepared es eo ec ew ep q =
        let n : l.count ≤ length intimes = R.within in
        let i₁ : length intimes ≤ length times = L.input.room in
        let i₂ : length intimes ≤ length work = L.input.room_joins in
        let i₃ : length intimes ≤ length places = L.input.room_places in
        let r₁ : length seedtimes ≤ length seeds = L.seeds_room in
        let r₂ : length outtimes ≤ length output = L.output_room in
        let r₃ : length seedtimes + length pending + length intimes + length outtimes ≤ length column = L.meets_room in
        let w₁ : length seedtimes ≤ length work = L.for_seeds in
        let w₂ : length outtimes ≤ length work = L.for_output in
        let w₃ : length tracked ≤ length work = L.for_tracked in
        let w₄ : length intimes ≤ length wvalues = L.for_values in
        let w₅ : length intimes ≤ length wdiffs = L.for_diffs in
        record {
          seeds_within = omega arith;
          input_within = omega arith;
          input_alike = loaded-alike;
          input_light = rw R.input_is (loaded_light (optional l.m));
          output_within = omega arith;
          meets_within = omega arith;
          meets_are = q;
          for_seeds = omega arith;
          for_times = omega arith;
          for_output = omega arith;
          for_tracked = omega arith;
          for_places = omega arith;
          for_values = omega arith;
          for_diffs = omega arith;
          waiting_room = L.waiting_room;
          pended_room = L.pended_room;
          moments_room = L.moments_room;
          tracked_room = L.tracked_room;
        }
