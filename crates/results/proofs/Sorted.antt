-- Corrections in result memory.
--
-- column_gathered: a column of corrections that were gathered at places
-- places_few, places_within: room for what is gathered. fixes-told: corrections written. first_given, first-told: of the first n corrections, what write_fixes takes and what it says
use Prim.Native.Nat.{ℕ, ◌+◌, ◌-◌, ◌≤◌}
use native.Mathlib.Omega.{arith}
use native.Mathlib.Nat.{sub-zero}
use mathlib.Core.List.{List, [], ◌∷◌, map, ◌++◌}
use mathlib.Core.Path.{◌≡◌, refl, sym, ◌∙◌, ap, subst}
use lib.IntN.{ℤ}
use lib.ListN.{length, take, length-map, drop}
use borrow.Rule.Slice.PartMut.{put_mid}
use Rattle.grid.specs.Records.{most_records}
use Rattle.rules.specs.Call.{Fix}
use Rattle.rules.specs.Memory.{numbers_size}
use Rattle.slices.specs.Places.{entry, diff_entry}
use Rattle.arranging.specs.Arranged.{Long, Room, fixes, RecordsAt, WorkAfter, sorted_places}
use Rattle.arranging.proofs.Arranged.{fixes_arranged}
use Rattle.placing.specs.Parts.{laid_at, column_at, fixes_laid, Wide}
use Rattle.results.specs.Sorted.{sorted_fixes, FirstFixes, FixesTold}
use Rattle.placing.proofs.Parts.{part-laid, first-length}

module _ (tiles keys values times : List ℕ) (diffs : List ℤ) where
  abbrev fix_at : ℕ → Fix
  fix_at i = record { tile = entry tiles i; row = record { key = entry keys i; value = entry values i; time = entry times i; diff = diff_entry diffs i } }

  column_gathered : {B : Type 0} (f : Fix → B) (l : List ℕ)
      → map f (fixes (map (entry tiles) l) (map (entry keys) l) (map (entry values) l) (map (entry times) l) (map (diff_entry diffs) l)) ≡ map (λ i. f (fix_at i)) l
  column_gathered f [] = refl
  column_gathered f (i ∷ l) = ap (λ r. f (fix_at i) ∷ r) (column_gathered f l)

  module _ (h : Long (length tiles) keys values times diffs) (places : List ℕ) (p : places ≡ sorted_places tiles keys values times) where
    column_sorted : {B : Type 0} (f : Fix → B) → map (λ i. f (fix_at i)) places ≡ map f (sorted_fixes (fixes tiles keys values times diffs))
    column_sorted f =
        let g : RecordsAt places keys values times diffs (map (entry keys) places) (map (entry values) places) (map (entry times) places) (map (diff_entry diffs) places) =
        record { keys_are = refl; values_are = refl; times_are = refl; diffs_are = refl } in
        sym (column_gathered f places) ∙ ap (map f) (fixes_arranged g {tiles = tiles} h p refl).fixes_are

    columns-laid : (res : List ℕ)
        → laid_at (column_at 3) (map (entry times) places) (laid_at (column_at 2) (map (entry values) places) (laid_at (column_at 1) (map (entry keys) places) (laid_at (column_at 0) (map (entry tiles) places) res)))
        ≡ fixes_laid (sorted_fixes (fixes tiles keys values times diffs)) res
    unfolding fixes_laid
    columns-laid res i =
        laid_at (column_at 3) (column_sorted (λ f. f.row.time) i)
        (laid_at (column_at 2) (column_sorted (λ f. f.row.value) i)
        (laid_at (column_at 1) (column_sorted (λ f. f.row.key) i)
        (laid_at (column_at 0) (column_sorted (λ f. f.tile) i) res)))

  pub fixes-told : {places work res res' : List ℕ} {rd rd' : List ℤ} → Long (length tiles) keys values times diffs → WorkAfter (sorted_places tiles keys values times) places work
      → res' ≡ laid_at (column_at 3) (map (entry times) places) (laid_at (column_at 2) (map (entry values) places) (laid_at (column_at 1) (map (entry keys) places) (laid_at (column_at 0) (map (entry tiles) places) res)))
      → rd' ≡ laid_at 0 (map (diff_entry diffs) places) rd → FixesTold tiles keys values times diffs res res' rd rd'
  fixes-told {places} {work} {res} {res'} {rd} h w e d = record {
    columns_are = e ∙ columns-laid h places w.places_are res;
    diffs_are = d ∙ ap (λ ds. laid_at 0 ds rd) (column_sorted h places w.places_are (λ f. f.row.diff));
  }

-- as many places as corrections
module _ {count : ℕ} {places work res : List ℕ} {rd : List ℤ} (few : count ≤ most_records) (m : Room count places work) (w : Wide res rd) {k : ℕ} (same : k ≡ length places) where
  pub places_few : (k ≤ most_records) × (numbers_size ≤ length res)
  places_few = (omega (arith, m.room_places), w.wide_numbers)

  pub places_within : k ≤ length rd
  places_within = omega (arith, m.room_places, w.wide_diffs)

module _ {tiles keys values times : List ℕ} {diffs : List ℤ} {n : ℕ} {places work res : List ℕ} {rd : List ℤ} (g : FirstFixes tiles keys values times diffs n places work res rd) where
  pub first_given : (length (take (n - 0) tiles) ≤ most_records)
      × (Long (length (take (n - 0) tiles)) (take (n - 0) keys) (take (n - 0) values) (take (n - 0) times) (take (n - 0) diffs)
      × (Room (length (take (n - 0) tiles)) (take (n - 0) places) (take (n - 0) work) × Wide res rd))
  first_given =
      let t = first-length tiles g.in_tiles in (
        omega (arith, g.few),
        (
          record {
            long_keys = first-length keys g.in_keys ∙ sym t;
            long_values = first-length values g.in_values ∙ sym t;
            long_times = first-length times g.in_times ∙ sym t;
            long_diffs = first-length diffs g.in_diffs ∙ sym t;
          },
          (record { room_places = first-length places g.room_places ∙ sym t; room_work = first-length work g.room_work ∙ sym t }, g.wide),
        ),
      )

  pub first-told : {res' : List ℕ} {rd' : List ℤ} → FixesTold (take (n - 0) tiles) (take (n - 0) keys) (take (n - 0) values) (take (n - 0) times) (take (n - 0) diffs) res res' rd rd'
      → FixesTold (take n tiles) (take n keys) (take n values) (take n times) (take n diffs) res res' rd rd'
  first-told {res'} {rd'} t = subst (λ k. FixesTold (take k tiles) (take k keys) (take k values) (take k times) (take k diffs) res res' rd rd') (sub-zero n) t
