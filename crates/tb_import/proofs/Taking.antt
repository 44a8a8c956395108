-- Gone places that are taken.
use Rattle.std.proofs.Common.{◌≡◌, ℕ, ◌==◌, ◌&&◌, ◌||◌, not, Bool, true, false, true≢false, List, [], ◌∷◌, refl, sym, ◌∙◌, ap, inl, inr}
use Rattle.std.proofs.lemmas.Bool.{cases_Bool, eqb-true}
use Rattle.tb_board.specs.declared.gone.Gone.{Gone}
use Rattle.tb_board.specs.Changing.{without_place}
use Rattle.tb_board.specs.Templates.{is_gone_at}
use Rattle.tb_board.proofs.Fits.{and_true}
use Rattle.tb_import.specs.declared.places.Places.{Places}
use Rattle.tb_import.specs.Entering.{is_gone}
use Rattle.tb_import.specs.Known.{AreGone}
use Rattle.tb_import.specs.Sets.{has_place}

-- a gone place is this one where another one that it is, is this one
same_gone : (g : Gone) (id k x y : ℕ) → is_gone_at id k g ≡ true → is_gone_at x y g ≡ ((id == x) && (k == y))
same_gone g id k x y here =
    let parts = and_true (g.template == id) (g.place == k) here in
    ap (λ t. (t == x) && (g.place == y)) (eqb-true g.template id parts.0) ∙ ap (λ p. (id == x) && (p == y)) (eqb-true g.place k parts.1)

place_is : (g : Gone) (id k x y : ℕ) → ((id == x) && (k == y)) ≡ true → is_gone_at id k g ≡ is_gone_at x y g
place_is g id k x y same =
    let parts = and_true (id == x) (k == y) same in
    ap (λ i. (g.template == i) && (g.place == k)) (eqb-true id x parts.0) ∙ ap (λ i. (g.template == x) && (g.place == i)) (eqb-true k y parts.1)

dropped : (other same rest : Bool) → other ≡ same → (rest && not same) ≡ ((other || rest) && not same)
dropped true true true e = refl
dropped true true false e = refl
dropped true false rest e = absurd (true≢false e)
dropped false true rest e = absurd (true≢false (sym e))
dropped false false rest e = refl

kept : (other same rest : Bool) → (same ≡ true → other ≡ false) → (other || (rest && not same)) ≡ ((other || rest) && not same)
kept true true rest apart = absurd (true≢false (apart refl))
kept true false rest apart = refl
kept false same rest apart = refl

-- the places that are left
pub gone_without : (gs : List Gone) (id k x y : ℕ) → is_gone (without_place id k gs) x y ≡ (is_gone gs x y && not ((id == x) && (k == y)))
gone_without [] id k x y = refl
gone_without (g ∷ gs) id k x y =
    elim (cases_Bool (is_gone_at id k g)) [
      | inl here ↦ rw here (gone_without gs id k x y ∙ dropped (is_gone_at x y g) ((id == x) && (k == y)) (is_gone gs x y) (same_gone g id k x y here))
      | inr other ↦
          rw other (ap (λ p. is_gone_at x y g || p) (gone_without gs id k x y)
          ∙ kept (is_gone_at x y g) ((id == x) && (k == y)) (is_gone gs x y) (λ same. sym (place_is g id k x y same) ∙ other))
    ]

pub gone_removed : (gs : List Gone) (old new : Places) (id k : ℕ) → AreGone gs old
    → ((x y : ℕ) → has_place new x y ≡ (has_place old x y && not ((id == x) && (k == y)))) → AreGone (without_place id k gs) new
gone_removed gs old new id k are removed x y =
    removed x y ∙ ap (λ p. p && not ((id == x) && (k == y))) (are x y) ∙ sym (gone_without gs id k x y)
