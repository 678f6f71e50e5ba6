-- What an answer says once it is known to be right.
use Rattle.std.proofs.Common.{◌≡◌, Ok, Err, false}
use Rattle.std.specs.Prelude.{Result, OnOk}
use Rattle.std.specs.Result.{is_err}

pub on_ok : {T E : Type 0} (r : Result T E) (P : Type 0) → is_err r ≡ false → OnOk r P → P
on_ok (Ok x) P e h = h
on_ok (Err x) P e h = cc
