-- The loads: what stands in the columns afterwards.
--
-- loading: seeds, input and output were loaded. meets_appended: the suffix meets of a column, behind what was written before
-- meets_all_appended: the suffix meets of seeds, pending, input and output, one after the other
use Prim.Native.Nat.{ℕ, ◌+◌, ◌-◌, ◌≤◌}
use native.Mathlib.Omega.{arith}
use mathlib.Core.List.{List, ◌++◌, append_assoc, map}
use mathlib.Core.Option.{Option, none}
use mathlib.Core.Path.{◌≡◌, sym, ◌∙◌, ap}
use lib.Dec.{leb}
use lib.IntN.{ℤ}
use lib.ListN.{length, take, drop, length-map}
use lib.Seq.{take_at, take-length, take-append-add, length-take-le}
use borrow.Rule.Slice.PartMut.{mid_of, post_of, put_mid, mid_len}
use Rattle.grid.specs.Slices.{laid}
use Rattle.grid.specs.Times.{joined, meets}
use Rattle.grid.proofs.Slices.{laid_fits}
use Rattle.grid.proofs.Sort.{length_sort}
use Rattle.times.specs.Meets.{optional}
use Rattle.times.specs.Meets.{Meet}
use Rattle.rules.specs.Histories.{Edit, load_times, suffix_meets}
use Rattle.histories.specs.Loads.{Loads}
use Rattle.histories.proofs.Suffixes.{length-suffix_meets}
use Rattle.edits.specs.Buffers.{LoadsEdits}
use Rattle.edits.specs.Edits.{edits}
use Rattle.joins.proofs.Heads.{meets-append}
use Rattle.discover.specs.Finding.{Loading, all_meets}

length_load : (o : Option ℕ) (ts : List ℕ) → length (load_times o ts) ≡ length ts
unfolding load_times
length_load o ts = length_sort leb (map (joined o) ts) ∙ length-map ts (joined o)

laid-loaded : (o : Option ℕ) (ts s : List ℕ) {s' : List ℕ} → length ts ≤ length s → s' ≡ laid (load_times o ts) s → take (length ts) s' ≡ load_times o ts
laid-loaded o ts s h e =
    let n : length (load_times o ts) ≡ length ts = length_load o ts in
    rw (e, laid_fits (load_times o ts) s (omega arith)) (take_at (load_times o ts) (drop (length (load_times o ts)) s) (length ts) n)

pub loading : {seedtimes pending intimes invalues : List ℕ} {indiffs : List ℤ} {outtimes seeds seeds' output output' work₀ work₁ work₂ work₃ : List ℕ} {E E' : List Edit} {joins joins' places places' : List ℕ} (m₀ m : Meet) {r : ℕ}
    → length seedtimes ≤ length seeds → length outtimes ≤ length output
    → optional m₀ ≡ meets pending none → optional m ≡ meets seedtimes (optional m₀)
    → Loads (load_times none seedtimes) seeds work₀ seeds' work₁ → Loads (load_times (optional m) outtimes) output work₂ output' work₃
    → LoadsEdits (optional m) intimes invalues indiffs E E' joins joins' places places' r
    → Loading seedtimes pending (edits intimes invalues indiffs) (length intimes) outtimes seeds' E' output' (record { count = r; m = m })
loading {seedtimes} {pending} {outtimes = outtimes} {seeds = seeds} {output = output} m₀ m ls lo e f s o i =
    record {
      m_is = f ∙ ap (meets seedtimes) e ∙ meets-append seedtimes pending none;
      seeds_are = laid-loaded none seedtimes seeds ls s.holds;
      within = i.within;
      input_is = i.loaded;
      output_is = laid-loaded (optional m) outtimes output lo o.holds;
    }

-- the meets of a column, written from the place `at` on
pub meets_appended : (at count : ℕ) (ts ms : List ℕ) {ys : List ℕ} → count ≤ length ts → at + count ≤ length ms → ys ≡ laid (suffix_meets (take count ts)) (mid_of at (at + count - at) ms)
    → take (at + count) (put_mid at (at + count - at) ms ys) ≡ take at ms ++ suffix_meets (take count ts)
meets_appended at count ts ms {ys} h k e =
    let X = suffix_meets (take count ts) in
    let n : length X ≡ count = length-suffix_meets (take count ts) ∙ length-take-le count ts h in
    let m : length (take at ms) ≡ at = length-take-le at ms (omega arith) in
    let g : length (mid_of at (at + count - at) ms) ≡ at + count - at = mid_len at (at + count) ms k in
    let y : ys ≡ X ++ drop (length X) (mid_of at (at + count - at) ms) = e ∙ laid_fits X (mid_of at (at + count - at) ms) (omega arith) in
    let rest = post_of at (at + count - at) ms in
    ap (λ i. take (i + count) (put_mid at (at + count - at) ms ys)) (sym m) ∙ take-append-add (take at ms) (ys ++ rest) count
    ∙ ap (λ l. take at ms ++ l) (ap (λ l. take count (l ++ rest)) y ∙ ap (take count) (append_assoc X (drop (length X) (mid_of at (at + count - at) ms)) rest) ∙ take_at X (drop (length X) (mid_of at (at + count - at) ms) ++ rest) count n)

pub meets_all_appended : (seeds pending times output ms : List ℕ) (s t o : ℕ) {r₁ r₂ r₃ r₄ : ℕ} {a b c : List ℕ} → r₁ ≡ 0 + s → r₂ ≡ r₁ + length pending → r₃ ≡ r₂ + t → r₄ ≡ r₃ + o
    → a ≡ suffix_meets seeds → b ≡ a ++ suffix_meets (take (length pending) pending) → c ≡ b ++ suffix_meets times → take r₄ ms ≡ c ++ suffix_meets output
    → take (((s + length pending) + t) + o) ms ≡ all_meets seeds pending times output
unfolding all_meets
meets_all_appended seeds pending times output ms s t o {r₄ = r₄} e₁ e₂ e₃ e₄ f g h k =
    let n : ((s + length pending) + t) + o ≡ r₄ = omega arith in
    let S = suffix_meets seeds in
    let P = suffix_meets pending in
    let I = suffix_meets times in
    let O = suffix_meets output in
    rw n (k ∙ rw (h, g, f, take-length) (append_assoc (S ++ P) I O ∙ append_assoc S P (I ++ O)))
