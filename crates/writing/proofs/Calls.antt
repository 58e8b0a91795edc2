-- What the program prints. A call leaves its answer in the result memory, and a slice of most_text bytes has room for its text, whatever was
-- asked; so the text that is written is the whole reply.
--
-- standing-call: the answer that stands in the memory that a call leaves is the call's answer, at every status
-- call-memory_fits: that memory is long enough
-- Printed text out out' r: r says that the whole text was written, and out' is it and then what out held. replied-asked, replied_bad: so it is of
-- the reply to a request, and to a bad line
use Prim.Native.Nat.{ℕ, ◌+◌, ◌-◌, ◌≤◌, ◌<◌}
use native.Mathlib.Omega.{arith}
use mathlib.Core.Bool.{true, ◌&&◌}
use mathlib.Core.List.{List, ◌++◌}
use mathlib.Core.Path.{◌≡◌, refl, sym, ◌∙◌, ap}
use lib.Dec.{leb}
use lib.IntN.{ℤ, pos}
use lib.ListN.{length, drop, replicate, length-append, length-replicate}
use lib.Seq.{sets-eq}
use borrow.Author.Tests.{le-leb, lt-leb, leb-true, leb-false}
use Rattle.grid.specs.Records.{most_records}
use Rattle.grid.proofs.Tests.{by-test}
use Rattle.rules.specs.Call.{Request, Answer, refused, call}
use Rattle.rules.specs.Memory.{Memory, numbers_size, numbers, diffs, leaves, after}
use Rattle.rules.proofs.Statuses.{call-refused}
use Rattle.rules.proofs.Memory.{call_fits}
use Rattle.form.specs.Read.{bad, asked, parse}
use Rattle.form.specs.Show.{show_answer, show_bad, reply}
use Rattle.form.proofs.Canon.{request_only}
use Rattle.form.proofs.Room.{most_text, answer-length, bad_length}
use Rattle.form.proofs.Answers.{answer_fits, reply_bad, reply-asked}
use Rattle.writing.specs.Answered.{standing, frontier_at, sizes_fit, counts_fit, memory_fits, Written}
use Rattle.writing.proofs.Standing.{results_of, standing_is}
use Rattle.std.proofs.Common.{Option, Some}

-- ---- the memory that a call leaves
leaves-laid : {A : Type 0} (z : A) (status : ℕ) (slice results : List A) → status < 11 → leaves z status slice results ≡ results ++ replicate (length slice - length results) z
unfolding leaves
leaves-laid z status slice results h = rw (lt-leb 11 status h)

leaves_long : {A : Type 0} (z : A) (status : ℕ) (slice results : List A) → length slice ≤ length (leaves z status slice results)
unfolding leaves
leaves_long z status slice results =
    by-test (leb 11 status && leb status 17) (λ e. rw e (omega arith))
    (λ e. rw (e, length-append, length-replicate) (omega arith))

refused_stands : (n : ℕ) (ns : List ℕ) (ds : List ℤ) → standing (results_of (refused n)) ns ds ≡ refused n
unfolding standing refused frontier_at
refused_stands n ns ds = refl

module _ (q : Request) (m : Memory) where
  small_stands : (call q).status < 11 → standing (results_of (call q)) (after (call q) m).numbers (after (call q) m).diffs ≡ call q
  unfolding after
  small_stands h =
      ap (λ ns. standing (results_of (call q)) ns (leaves (pos 0) (call q).status m.diffs (diffs (call q)))) (leaves-laid 0 (call q).status m.numbers (numbers (call q)) h)
      ∙ ap (λ ds. standing (results_of (call q)) (numbers (call q) ++ replicate (length m.numbers - length (numbers (call q))) 0) ds) (leaves-laid (pos 0) (call q).status m.diffs (diffs (call q)) h)
      ∙ standing_is (call q) (call_fits q) _ _

  large_stands : 1 < (call q).status → standing (results_of (call q)) (after (call q) m).numbers (after (call q) m).diffs ≡ call q
  large_stands h =
      let e : call q ≡ refused (call q).status = call-refused q h in
      ap (λ (a : Answer). standing (results_of a) (after (call q) m).numbers (after (call q) m).diffs) e ∙ refused_stands (call q).status _ _ ∙ sym e

  pub standing-call : standing (results_of (call q)) (after (call q) m).numbers (after (call q) m).diffs ≡ call q
  standing-call = by-test (leb (call q).status 1) (λ e. small_stands (omega (arith, leb-true (call q).status 1 e))) (λ e. large_stands (leb-false (call q).status 1 e))

  pub call-memory_fits : numbers_size ≤ length m.numbers → most_records ≤ length m.diffs → memory_fits (results_of (call q)) (length (after (call q) m).numbers) (length (after (call q) m).diffs) ≡ true
  unfolding memory_fits sizes_fit counts_fit after
  call-memory_fits h k =
      let f = call_fits q in
      let a = leaves_long 0 (call q).status m.numbers (numbers (call q)) in
      let b = leaves_long (pos 0) (call q).status m.diffs (diffs (call q)) in
      let c : numbers_size ≤ length (leaves 0 (call q).status m.numbers (numbers (call q))) = omega arith in
      let d : most_records ≤ length (leaves (pos 0) (call q).status m.diffs (diffs (call q))) = omega arith in
      rw (le-leb _ _ c, le-leb _ _ d, le-leb _ _ f.tiles_fit, le-leb _ _ f.fixes_fit, le-leb _ _ f.pending_fits, le-leb _ _ f.frontier_fits)
      (by-test (leb 3 (call q).status) (λ e. rw e) (λ e. rw e))

-- ---- the whole text
pub record Printed (text out out' : List ℕ) (r : Option ℕ) : Type 0 where
  pub told_all : r ≡ Some (length text)
  pub holds : out' ≡ text ++ drop (length text) out

printed : {text out out' : List ℕ} {r : Option ℕ} → length text ≤ length out → Written true text out out' r → Printed text out out' r
printed {text} {out} h w = record {
  told_all = w.told_is ∙ (rw (le-leb (length text) (length out) h));
  holds = let z : 0 + length text ≡ length text = omega arith in w.holds ∙ sets-eq text out 0 (omega arith) ∙ ap (λ (k : ℕ). text ++ drop k out) z;
}

module _ (s : List ℕ) {out out' : List ℕ} {r : Option ℕ} (room : most_text ≤ length out) where
  pub replied_bad : {n : ℕ} → parse s ≡ bad n → Written true (show_bad n) out out' r → Printed (reply s) out out' r
  replied_bad {n} e w = rw (reply_bad s e) (printed (omega (arith, bad_length n)) w)

  pub replied-asked :
      {q : Request} → parse s ≡ asked q → (m : Memory) → numbers_size ≤ length m.numbers → most_records ≤ length m.diffs
      → Written (memory_fits (results_of (call q)) (length (after (call q) m).numbers) (length (after (call q) m).diffs)) (show_answer (standing (results_of (call q)) (after (call q) m).numbers (after (call q) m).diffs)) out out' r
      → Printed (reply s) out out' r
  replied-asked {q} e m h k w =
      rw (reply-asked s e) (printed (omega (arith, answer-length (call q) (answer_fits q (request_only s e).fits))) (rw (call-memory_fits q m h k, standing-call q m) at w))
