-- What a call says, for those that print it and those that export it.
--
-- results_of: as it is printed. counted: its six numbers
use Rattle.std.specs.Prelude.{ℕ, List, [], ◌∷◌}
use Rattle.requests.specs.Statuses.{number_of}
use Rattle.answers.specs.declared.Outcome.{Outcome}
use Rattle.writing.specs.declared.Results.{Results}

abbrev pub results_of : Outcome → Results
results_of o = record { status = number_of o.status; crossings = o.crossings; tiles = o.tiles; fixes = o.fixes; pending = o.pending; frontier = o.frontier }

unfoldable pub counted : Outcome → List ℕ
counted o = number_of o.status ∷ o.crossings ∷ o.tiles ∷ o.fixes ∷ o.pending ∷ o.frontier ∷ []
