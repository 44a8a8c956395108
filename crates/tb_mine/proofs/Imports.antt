-- Imports that follow one another.
use Rattle.std.proofs.Common.{◌≡◌, ◌∙◌, ℕ, zero, suc, ◌+◌, ◌<◌, Bool, false, true, ◌&&◌, List, [], ◌∷◌, ◌++◌, take, length, get_or, append_assoc, arith, refl, sym, ap, subst}
use Rattle.std.specs.Io.KnownBytes.{Appends}
use Rattle.std.proofs.lemmas.List.{append-nil, take_more}
use Rattle.tb_mine.specs.Asked.{Asked, Output, all_accepted}
use Rattle.tb_mine.specs.Imported.{AreImported, AreImports, GoesOnIf, IsImport, imported_line, imported_lines}
use Rattle.tb_mine.proofs.Following.{Joins}
use Rattle.tb_my.specs.Days.{Text}
use Rattle.tb_values.proofs.Appends.{Appends-then}

-- each was accepted
abbrev pub AreTaken : Bool → Text → List Text → List Asked → Type 0
AreTaken is_json board [] [] = Unit {0}
AreTaken is_json board [] (asked ∷ more) = ⊥
AreTaken is_json board (part ∷ parts) [] = ⊥
AreTaken is_json board (part ∷ parts) (asked ∷ more) = IsImport is_json board part asked × (asked.answer.is_accepted ≡ true) × AreTaken is_json board parts more

taken_more : (is_json : Bool) (board : Text) (parts : List Text) (list : List Asked) (part : Text) (asked : Asked) → AreTaken is_json board parts list
    → IsImport is_json board part asked → asked.answer.is_accepted ≡ true → AreTaken is_json board (parts ++ part ∷ []) (list ++ asked ∷ [])
taken_more is_json board [] [] part asked are is so = (is, so, tt)
taken_more is_json board [] (a ∷ list) part asked are is so = absurd are
taken_more is_json board (p ∷ parts) [] part asked are is so = absurd are
taken_more is_json board (p ∷ parts) (a ∷ list) part asked are is so = (are.0, are.1, taken_more is_json board parts list part asked are.2 is so)

taken_all : (is_json : Bool) (board : Text) (parts : List Text) (list : List Asked) → AreTaken is_json board parts list → AreImports is_json board parts list
taken_all is_json board [] [] are = tt
taken_all is_json board [] (a ∷ list) are = absurd are
taken_all is_json board (p ∷ parts) [] are = absurd are
taken_all is_json board (p ∷ parts) (a ∷ list) are =
    (are.0, subst (λ b. GoesOnIf b (AreImports is_json board parts list) list) (sym are.1) (taken_all is_json board parts list are.2))

accepted_all : (is_json : Bool) (board : Text) (parts : List Text) (list : List Asked) → AreTaken is_json board parts list → all_accepted list ≡ true
accepted_all is_json board [] [] are = refl
accepted_all is_json board [] (a ∷ list) are = absurd are
accepted_all is_json board (p ∷ parts) [] are = absurd are
accepted_all is_json board (p ∷ parts) (a ∷ list) are = ap (λ b. b && all_accepted list) are.1 ∙ accepted_all is_json board parts list are.2

-- after those that were accepted one is refused, and no other is asked for
taken_then : (is_json : Bool) (board : Text) (parts : List Text) (i : ℕ) (list : List Asked) (part : Text) (asked : Asked) → i < length parts → part ≡ get_or parts i part
    → AreTaken is_json board (take i parts) list → IsImport is_json board part asked → asked.answer.is_accepted ≡ false
    → AreImports is_json board parts (list ++ asked ∷ []) × (all_accepted (list ++ asked ∷ []) ≡ false)
taken_then is_json board [] i list part asked within at are is so = absurd (omega arith)
taken_then is_json board (p ∷ parts) zero [] part asked within at are is so =
    ((subst (λ text. IsImport is_json board text asked) at is, subst (λ b. GoesOnIf b (AreImports is_json board parts []) []) (sym so) refl), ap (λ b. b && true) so)
taken_then is_json board (p ∷ parts) zero (a ∷ list) part asked within at are is so = absurd are
taken_then is_json board (p ∷ parts) (suc i) [] part asked within at are is so = absurd are
taken_then is_json board (p ∷ parts) (suc i) (a ∷ list) part asked within at are is so =
    let next = taken_then is_json board parts i list part asked (omega arith) at are.2 is so in (
      (are.0, subst (λ b. GoesOnIf b (AreImports is_json board parts (list ++ asked ∷ [])) (list ++ asked ∷ [])) (sym are.1) next.0),
      ap (λ b. b && all_accepted (list ++ asked ∷ [])) are.1 ∙ next.1,
    )

lines_more : (list : List Asked) (asked : Asked) → imported_lines (list ++ asked ∷ []) ≡ imported_lines list ++ imported_line asked.answer
lines_more [] asked = append-nil (imported_line asked.answer)
lines_more (a ∷ list) asked =
    let first = imported_line a.answer in
    ap (λ text. first ++ text) (lines_more list asked) ∙ sym (append_assoc first (imported_lines list) (imported_line asked.answer))

-- so many were imported
pub record Taken {A : Type 0} (follows : List Asked → A → A → Type 0) (is_json : Bool) (board : Text) (parts : List Text) (before after : Output) (old new : A) : Type 0 where
  pub list : List Asked
  pub follow : follows list old new
  pub are : AreTaken is_json board parts list
  pub printed : Appends before after (imported_lines list)

-- one that was asked for
abbrev pub IsOneImport : {A : Type 0} → (List Asked → A → A → Type 0) → Bool → Text → Text → Output → Output → A → A → Bool → Type 0
IsOneImport follows is_json board part before after old new is = (asked : Asked) × follows (asked ∷ []) old new × IsImport is_json board part asked
    × (is ≡ asked.answer.is_accepted) × Appends before after (imported_line asked.answer)

pub taking_on : {A : Type 0} (follows : List Asked → A → A → Type 0) (joined : Joins follows) (is_json : Bool) (board : Text) (parts : List Text) (i : ℕ) (part : Text)
    (is : Bool) (a b c : Output) (x y z : A) → i < length parts → part ≡ get_or parts i part → is ≡ true
    → Taken follows is_json board (take i parts) a b x y → IsOneImport follows is_json board part b c y z is
    → Taken follows is_json board (take (i + 1) parts) a c x z
taking_on follows joined is_json board parts i part is a b c x y z within at so are now =
    let next : take (i + 1) parts ≡ take i parts ++ part ∷ [] = take_more parts i part within ∙ ap (λ p. take i parts ++ p ∷ []) (sym at) in
    record {
      list = are.list ++ now.0 ∷ [];
      follow = joined are.list (now.0 ∷ []) x y z are.follow now.1;
      are = subst (λ ps. AreTaken is_json board ps (are.list ++ now.0 ∷ [])) (sym next)
          (taken_more is_json board (take i parts) are.list part now.0 are.are now.2 (sym now.3 ∙ so));
      printed = subst (Appends a c) (sym (lines_more are.list now.0)) (Appends-then a b c _ _ are.printed now.4);
    }

-- what is promised of an import, of the list that was asked for
abbrev pub Imports : {A : Type 0} → (List Asked → A → A → Type 0) → Bool → Text → List Text → Output → Output → A → A → Bool → Type 0
Imports follows is_json board parts before after old new is =
    (asked : List Asked) × follows asked old new × AreImported is_json board parts asked before after is

pub refused_at : {A : Type 0} (follows : List Asked → A → A → Type 0) (joined : Joins follows) (is_json : Bool) (board : Text) (parts : List Text) (i : ℕ) (part : Text)
    (is : Bool) (a b c : Output) (x y z : A) → i < length parts → part ≡ get_or parts i part → is ≡ false
    → Taken follows is_json board (take i parts) a b x y → IsOneImport follows is_json board part b c y z is
    → Imports follows is_json board parts a c x z false
refused_at follows joined is_json board parts i part is a b c x y z within at so are now =
    let ends = taken_then is_json board parts i are.list part now.0 within at are.are now.2 (sym now.3 ∙ so) in (
      are.list ++ now.0 ∷ [],
      joined are.list (now.0 ∷ []) x y z are.follow now.1,
      record {
        each = ends.0;
        accepted = sym ends.1;
        printed = subst (Appends a c) (sym (lines_more are.list now.0)) (Appends-then a b c _ _ are.printed now.4);
      },
    )

pub all_taken : {A : Type 0} (follows : List Asked → A → A → Type 0) (is_json : Bool) (board : Text) (parts : List Text) (a b : Output) (x y : A)
    → Taken follows is_json board parts a b x y → Imports follows is_json board parts a b x y true
all_taken follows is_json board parts a b x y are = (
  are.list,
  are.follow,
  record {
    each = taken_all is_json board parts are.list are.are;
    accepted = sym (accepted_all is_json board parts are.list are.are);
    printed = are.printed;
  },
)
