-- Both sides loaded.
--
-- lent_load, lent-meets: what the load of a side asks. side_loaded: what it leaves
-- side_part: the loaded part of the columns is a side. wave-loaded: the wave of two such parts is that of the two runs
use Prim.Native.Nat.{ℕ, ◌+◌, ◌≤◌}
use native.Mathlib.Omega.{arith}
use native.Mathlib.Nat.{mul-le-mul_right}
use mathlib.Core.List.{List}
use mathlib.Core.Option.{none}
use mathlib.Core.Path.{◌≡◌, sym, ◌∙◌, ap}
use lib.IntN.{ℤ, nat_abs}
use lib.ListN.{length, take}
use lib.Seq.{length-take-le}
use Rattle.grid.specs.Slices.{laid}
use Rattle.grid.proofs.Sizes.{mass_most}
use Rattle.consolidation.specs.Entries.{mass, most_mass}
use Rattle.consolidation.proofs.Laws.{mass-entries}
use Rattle.rules.specs.Histories.{Edit, load_edits, loaded, suffix_meets}
use Rattle.rules.specs.Wave.{wave, wave_of}
use Rattle.rules.proofs.Wave.{WaveRun, light_loaded}
use Rattle.histories.specs.Places.{history_of}
use Rattle.histories.proofs.Suffixes.{suffixes_start}
use Rattle.edits.specs.Edits.{edits, Alike}
use Rattle.edits.specs.Buffers.{LoadsEdits, LentLoad}
use Rattle.edits.proofs.Edits.{diffs-edits, length-edits, edits-take}
use Rattle.emissions.specs.Emissions.{most_edits}
use Rattle.wave.specs.Replays.{Side, fresh}
use Rattle.wave.specs.Calls.{Blank, SideLoaded}
use Rattle.wave.proofs.Turns.{front_alike}

module _ {ft fv : List ℕ} {fd : List ℤ} (a : Alike ft fv fd) (r : WaveRun (edits ft fv fd)) {ts₀ vs₀ : List ℕ} {ds₀ : List ℤ} {ms₀ : List ℕ} (b : Blank ts₀ vs₀ ds₀ ms₀) where
  few_times : length ft ≤ most_edits
  few_times = omega (arith, r.few, length-edits ft fv fd a)

  run_bounded : mass fd ≤ most_mass
  run_bounded =
      let es = edits ft fv fd in
      rw (← diffs-edits ft fv fd a, ← mass-entries es) (omega (arith, mass_most nat_abs 1048576 r.small, mul-le-mul_right 1048576 r.few))

  pub lent_load : (joins places : List ℕ) → length joins ≡ most_edits → length places ≡ most_edits → LentLoad ft fv fd joins places ts₀ vs₀ ds₀
  lent_load joins places j k =
      record {
        lent = record { alike-second = a.values; alike-diff = a.diffs; bounded = run_bounded };
        alike = record { values = b.for_values ∙ sym b.for_times; diffs = b.for_diffs ∙ sym b.for_times };
        room = omega (arith, few_times, b.for_times);
        room_joins = omega (arith, few_times);
        room_places = omega (arith, few_times);
      }

  module _ (ts vs : List ℕ) (ds : List ℤ) {joins places joins' places' : List ℕ} {n : ℕ} (lt : length ts ≡ length ts₀) (l : LoadsEdits none ft fv fd (edits ts₀ vs₀ ds₀) (edits ts vs ds) joins joins' places places' n) where
    pub lent-meets : (n ≤ length ts) × (n ≤ length ms₀)
    lent-meets = (omega (arith, l.within, few_times, b.for_times), omega (arith, l.within, few_times, b.for_meets))

    pub side_loaded : length vs ≡ length vs₀ → length ds ≡ length ds₀ → {ms : List ℕ} → ms ≡ laid (suffix_meets (take n ts)) ms₀ → SideLoaded (edits ft fv fd) ts vs ds ms n
    unfolding history_of
    side_loaded lv ld e =
        let k : Alike ts vs ds = record { values = lv ∙ b.for_values ∙ sym b.for_times ∙ sym lt; diffs = ld ∙ b.for_diffs ∙ sym b.for_times ∙ sym lt } in
        let m : length (take n ts) ≡ n = length-take-le n ts lent-meets.0 in
        let h : edits (take n ts) (take n vs) (take n ds) ≡ load_edits none (edits ft fv fd) = edits-take ts vs ds k n ∙ l.loaded in
        record {
          within = omega (arith, l.within, few_times);
          side = record {
            alike = front_alike ts vs ds k n lent-meets.0;
            few = omega (arith, m, l.within, few_times);
            placed = record { behind = omega arith; within = omega arith };
            suffixes = suffixes_start (take n ts) _ (omega (arith, m, lent-meets.1)) e;
            light = rw h (light_loaded r);
          };
          loaded = h;
        }

module _ {es : List Edit} {ts vs : List ℕ} {ds : List ℤ} {ms : List ℕ} {n : ℕ} (l : SideLoaded es ts vs ds ms n) where
  pub side_part : Side (take n ts) (take n vs) (take n ds) ms fresh
  side_part = l.side

  part-loaded : edits (take n ts) (take n vs) (take n ds) ≡ load_edits none es
  part-loaded = l.loaded

  part_long : length (take n ts) ≡ length (load_edits none es)
  part_long = sym (length-edits (take n ts) (take n vs) (take n ds) side_part.alike) ∙ ap length part-loaded

pub wave-loaded : {as' bs : List Edit} {ts vs : List ℕ} {ds : List ℤ} {ms us ws : List ℕ} {es : List ℤ} {ns : List ℕ} {n m : ℕ} → SideLoaded as' ts vs ds ms n → SideLoaded bs us ws es ns m
    → wave (length (take n ts) + length (take m us)) (loaded (edits (take n ts) (take n vs) (take n ds))) (loaded (edits (take m us) (take m ws) (take m es))) ≡ wave_of as' bs
unfolding wave_of
wave-loaded a b = λ i. wave (part_long a i + part_long b i) (loaded (part-loaded a i)) (loaded (part-loaded b i))
