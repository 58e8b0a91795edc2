-- The call as other languages make it.
--
-- export_short, export_long: what the call says with no room for counts, and with it
-- print_short, print_long: what is printed with no room for the longest reply, and with it
use Prim.Native.Nat.{ℕ, ◌≤◌, ◌<◌}
use native.Mathlib.Omega.{arith}
use mathlib.Core.List.{List, ◌++◌}
use mathlib.Core.Path.{◌≡◌, refl, sym, subst}
use lib.ListN.{length, drop}
use Rattle.rules.specs.Memory.{Memory, Lent}
use Rattle.form.proofs.Room.{most_text}
use Rattle.demands.specs.Answers.{Retires}
use Rattle.answers.specs.declared.Outcome.{Outcome}
use Rattle.answering.specs.Replied.{Replied}
use Rattle.requests.specs.Statuses.{number_of}
use Rattle.requests.specs.Memory.{memory_of}
use Rattle.requests.specs.declared.memory.ResultMemory.{ResultMemory}
use Rattle.requests.specs.declared.memory.WorkMemory.{WorkMemory}
use lib.IntN.{ℤ}
use Rattle.demands.specs.Lending.{memory, needed}
use Rattle.telling.specs.Said.{counted}
use Rattle.exports.specs.Exported.{Exported, Printed}

pub export_short : (l : Lent) (counts : List ℕ) → length counts < 6 → Exported l counts counts l.memory 11
export_short l counts h = record { short = λ _. record { refused = refl; same_counts = refl; same_memory = refl }; long = λ k. absurd (omega (arith, h, k)) }

pub export_long : {l : Lent} {counts counts' : List ℕ} {m : Memory} {o : Outcome} → 6 ≤ length counts → Retires needed l o m → counts' ≡ counted o ++ drop 6 counts → Exported l counts counts' m (number_of o.status)
export_long {o = o} h r c = record { short = λ k. absurd (omega (arith, h, k)); long = λ _. record { outcome = o; retires = r; status_is = refl; counts_are = c } }

pub print_short : (text out : List ℕ) → length out < most_text → Printed text out out 0
print_short text out h = record { short = λ _. record { none = refl; same = refl }; long = λ k. absurd (omega (arith, h, k)) }

pub print_long : {text out out' : List ℕ} {n : ℕ} → most_text ≤ length out → Replied text out out' n → Printed text out out' n
print_long h r = record { short = λ k. absurd (omega (arith, h, k)); long = λ _. r }

-- what was lent as structs is read in the slices that they were made of
pub read_back :
    (r : ResultMemory) (w : WorkMemory) {l : Lent} {counts counts' : List ℕ} {o : ℕ} {res : List ℕ} {rd : List ℤ} {moments tk tv tt uv ut : List ℕ} {td ud : List ℤ}
    → res ≡ r.numbers.now → rd ≡ r.diffs.now → tk ≡ w.keys.now → tv ≡ w.values.now → tt ≡ w.times.now → uv ≡ w.out_values.now → ut ≡ w.out_times.now → td ≡ w.diffs.now → ud ≡ w.out_diffs.now
    → Exported l counts counts' (memory_of r moments w) o → Exported l counts counts' (memory res rd moments tk tv tt uv ut td ud) o
read_back r w {l} {counts} {counts'} {o} {moments = moments} a b c d e f g h k x =
    subst (λ m. Exported l counts counts' m o) (λ i. memory (sym a i) (sym b i) moments (sym c i) (sym d i) (sym e i) (sym f i) (sym g i) (sym h i) (sym k i)) x
