-- What a read gives after what earlier reads gave.
use Rattle.std.proofs.Common.{ℕ, ◌+◌, ◌≤◌, ◌≡◌, List, ◌++◌, length, take, sym, ap, ◌∙◌, subst}
use Rattle.std.proofs.lemmas.List.{length-take-le, take-append-le}
use Rattle.std.proofs.Math.Seq.{take-append-add}
use Rattle.std.proofs.KnownBytes.{Consumes-trans}
use Rattle.std.specs.Io.KnownBytes.{Consumes}
use Rattle.std.specs.declared.option.Option.{Option}
use borrow.Rule.Slice.PartMut.{put_mid, post_of}

front_on : (done k n : ℕ) (xs ys : List ℕ) → done ≤ length xs → n ≤ length ys → take (done + n) (put_mid done k xs ys) ≡ take done xs ++ take n ys
front_on done k n xs ys within fits =
    let before = take done xs in
    let rest = ys ++ post_of done k xs in
    ap (λ m. take (m + n) (before ++ rest)) (sym (length-take-le done xs within)) ∙ take-append-add before rest n ∙ ap (λ l. before ++ l) (take-append-le n ys (post_of done k xs) fits)

pub read_on : (a b c : Option (List ℕ)) (done k n : ℕ) (xs ys : List ℕ) → done ≤ length xs → n ≤ length ys → Consumes a b (take done xs) → Consumes b c (take n ys) → Consumes a c (take (done + n) (put_mid done k xs ys))
read_on a b c done k n xs ys within fits before read = subst (Consumes a c) (sym (front_on done k n xs ys within fits)) (Consumes-trans a b c _ _ before read)
