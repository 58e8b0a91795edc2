-- The listing in both directions, bytes to bytes, and the line that each damaged request names, by computation.
use Prim.Native.Nat.{ℕ}
use mathlib.Core.List.{List, map}
use mathlib.Core.Path.{◌≡◌, refl}
use Rattle.grid.specs.Times.{hi, lo, at}
use Rattle.rules.specs.Cases.{opened}
use Rattle.form.specs.Text.{ascii}
use Rattle.form.specs.Read.{word, ending, value, plain, up_to, number, negated, signed, time, times, list, mode, line, row, pair, many, Asked, bad, asked, ended, sections, line_after, body, request, parse}
use Rattle.form.specs.Show.{digits, decimal, signed_decimal, show_time, show_more, show_list, show_row, show_pair, show_line, show_mode, show_request, show_tile, show_fix, show_results, show_answer, show_bad, reply}
use Rattle.form.specs.Cases.{listing, reading, printed, Damaged, damaged}

-- all that a request's reading rests on, opened at once
reads : List ℕ → Asked
unfolding word ending value plain up_to number negated signed time times list mode line row pair many ended sections line_after body request parse at
reads s = parse s

pub listing_read : parse (ascii listing) ≡ asked reading
unfolding reads reading
listing_read = refl

-- all that printing rests on, opened at once
shows : List ℕ → List ℕ
unfolding digits decimal signed_decimal show_time show_more show_list show_row show_pair show_line show_mode show_request show_tile show_fix show_results show_answer show_bad reply hi lo
shows s = reply s

pub listing_shown : show_request reading ≡ ascii listing
unfolding reading shows
listing_shown = refl

pub listing-answered : reply (ascii listing) ≡ ascii printed
unfolding reads shows opened
listing-answered = refl

pub damage_named : map (λ (d : Damaged). parse d.text) damaged ≡ map (λ (d : Damaged). bad d.line) damaged
unfolding reads
damage_named = refl
