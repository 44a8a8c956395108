-- The sign of a word that is a project or a tag.
use Rattle.std.proofs.Common.{◌≡◌, ℕ, ◌<◌, Bool, true, false, ◌==◌, nat_lt, List, length, get_or, Option, Some, None, cond, refl}
use Rattle.std.proofs.lemmas.Bool.{and_parts, eqb-true, ltb-true}
use Rattle.tb_todotxt.specs.Words.{has_sign, kind_of, due_in, id_in, due_or, id_or_plain}
use Rattle.tb_todotxt.specs.declared.words.Kind.{Kind}
use Rattle.tb_todotxt.specs.declared.words.Kind.TheVariants.{Project, Tag}

pub record IsSigned (sign : ℕ) (word : List ℕ) : Type 0 where
  pub long : 1 < length word
  pub first : get_or word 0 0 ≡ sign

pub signed : (sign : ℕ) (word : List ℕ) → has_sign sign word ≡ true → IsSigned sign word
signed sign word h =
    let a = and_parts (nat_lt 1 (length word)) (get_or word 0 0 == sign) h in
    record { long = ltb-true 1 (length word) a.0; first = eqb-true (get_or word 0 0) sign a.1 }

-- a word with neither sign is of another kind
other_kind : (day id : Option ℕ) (kind : Kind) → due_or day (id_or_plain id) ≡ kind → (kind ≡ Project → ⊥) × (kind ≡ Tag → ⊥)
other_kind (Some d) id kind is = ((λ e. cc), (λ e. cc))
other_kind None (Some i) kind is = ((λ e. cc), (λ e. cc))
other_kind None None kind is = ((λ e. cc), (λ e. cc))

project_from : (plus at : Bool) (day id : Option ℕ) → cond plus Project (cond at Tag (due_or day (id_or_plain id))) ≡ Project → plus ≡ true
project_from true at day id h = refl
project_from false true day id h = absurd (cc h)
project_from false false day id h = absurd ((other_kind day id Project h).0 refl)

tag_from : (plus at : Bool) (day id : Option ℕ) → cond plus Project (cond at Tag (due_or day (id_or_plain id))) ≡ Tag → at ≡ true
tag_from true at day id h = absurd (cc h)
tag_from false true day id h = refl
tag_from false false day id h = absurd ((other_kind day id Tag h).1 refl)

pub project_sign : (word : List ℕ) → kind_of word ≡ Project → has_sign 43 word ≡ true
unfolding kind_of
project_sign word h = project_from (has_sign 43 word) (has_sign 64 word) (due_in word) (id_in word) h

pub tag_sign : (word : List ℕ) → kind_of word ≡ Tag → has_sign 64 word ≡ true
unfolding kind_of
tag_sign word h = tag_from (has_sign 43 word) (has_sign 64 word) (due_in word) (id_in word) h
