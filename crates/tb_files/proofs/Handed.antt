-- What `?` hands on.
use Rattle.std.proofs.Common.{◌≡◌, Result, Ok, Err, IfErr, subst, sym}
use Rattle.std.specs.Prelude.{IsErrAnd}

pub left_by : {A E : Type 0} (r : Result A E) (told : E) (P : E → Type 0) → IsErrAnd r (λ e. e ≡ told) → P told → IfErr r P
left_by (Ok x) told P is left = tt
left_by (Err e) told P is left = subst P (sym is) left
