use Rattle.std.proofs.Common.{◌≡◌, ℕ, ◌<◌, List, length, Option, Some, None, get_or, set, slice_get, unwrap_or, refl, ap, sym, ◌∙◌, arith}
use Rattle.std.specs.Prelude.{OnSome}
use Rattle.std.proofs.lemmas.List.{set-get_or}
use Rattle.std.proofs.lemmas.Option.{slice_get_read}
use Rattle.tb_event_loop.proofs.places.Places.connection.Goals as goal

put_back : {X : Type 0} (xs : List X) (i : ℕ) (x : X) → x ≡ get_or xs i x → set xs i x ≡ xs
put_back xs i x here = ap (set xs i) here ∙ set-get_or xs i x

on_some : {X : Type 0} (o : Option X) {P : Type 0} → P → OnSome o P
on_some None fact = tt
on_some (Some x) fact = fact

in_slot : {X : Type 0} (xs : List (Option X)) (i : ℕ) (slot : Option X) → i < length xs → slot ≡ get_or xs i slot → unwrap_or (slice_get xs i) None ≡ slot
in_slot xs i slot within here = ap (λ found. unwrap_or found None) (slice_get_read xs (length xs) i slot refl within here)

pub returns : goal.returns
returns c =
    let slot = c.in_ok-self.ensures in
    let within : c.args.place < length c.args.self.now.connections.items = omega (arith, slot.variant.0 refl) in (
      (refl, λ w. on_some c.as_mut.result (refl, refl), (put_back _ _ _ slot.value, refl)),
      record { lends = tt; value = c.as_mut.ensures.value ∙ sym (in_slot _ _ _ within slot.value) },
    )
