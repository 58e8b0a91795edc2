-- "A key's view holds the lent run and the pending list by reference, as KeyView does."
--
-- view_of: the view of the slices that are given: the same references, and not copies
use Rattle.std.specs.Prelude.{ℕ, List, ℤ}
use Rattle.std.specs.Borrow.{Bor}
use Rattle.views.specs.declared.key.KeyView.{KeyView}

abbrev pub view_of : Bor (List ℕ) → Bor (List ℕ) → Bor (List ℕ) → Bor (List ℕ) → Bor (List ℤ) → Bor (List ℕ) → KeyView
view_of seedtimes pending intimes invalues indiffs outtimes = record { seedtimes = seedtimes; pending = pending; intimes = intimes; invalues = invalues; indiffs = indiffs; outtimes = outtimes }
