-- What is found of a window's keys, in columns by value.
use Rattle.std.specs.Prelude.{◌≡◌, length}
use Rattle.fronts.specs.declared.Fronts.{Fronts}

-- the columns of what is found are of 64 keys
pub record Full (f : Fronts) : Type 0 where
  pub long_mends : length f.mends ≡ 64
  pub long_ifrom : length f.ifrom ≡ 64
  pub long_ito : length f.ito ≡ 64
  pub long_ofrom : length f.ofrom ≡ 64
  pub long_oto : length f.oto ≡ 64
