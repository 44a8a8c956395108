-- Sets of the identifiers of templates, one task after the other.
use Rattle.std.proofs.Common.{◌≡◌, ℕ, ◌+◌, ◌<◌, ◌==◌, ◌&&◌, ◌||◌, Bool, true, false, BTreeSet, cond, List, length, get_or, is_eq, nat_cmp, take, refl, sym, ◌∙◌, ap, ap₂}
use Rattle.std.specs.BTreeSet.{contains}
use Rattle.std.specs.List.{list_any}
use Rattle.std.proofs.lemmas.List.Folds.{list_any_more}
use Rattle.tb_task.specs.declared.task.Task.{Task}
use Rattle.tb_board.specs.Instances.{is_template_with}
use Rattle.tb_board.specs.Statuses.{is_template}
use Rattle.tb_board.proofs.Linking.{same_number}
use Rattle.tb_good.specs.Templates.{AreTemplates}

one_more : (here old : Bool) → cond here true old ≡ (old || (here && true))
one_more true true = refl
one_more true false = refl
one_more false true = refl
one_more false false = refl

none_more : (here old : Bool) → old ≡ (old || (here && false))
none_more true true = refl
none_more true false = refl
none_more false true = refl
none_more false false = refl

module _ (ts : List Task) (i : ℕ) (t : Task) (old : BTreeSet ℕ) (within : i < length ts) (is : t ≡ get_or ts i t) (are : AreTemplates (take i ts) old) where
  -- with the answer of the test at the next task
  next : (id : ℕ) (answer : Bool) → is_template t ≡ answer → (contains nat_cmp old id || ((t.id == id) && answer)) ≡ list_any (is_template_with id) (take (i + 1) ts)
  next id answer tested =
      ap₂ (λ all template. all || ((t.id == id) && template)) (are id) (sym tested)
      ∙ ap (λ u. list_any (is_template_with id) (take i ts) || is_template_with id u) is ∙ sym (list_any_more (is_template_with id) ts i t within)

  pub templates_more : (new : BTreeSet ℕ) → is_template t ≡ true → ((id : ℕ) → contains nat_cmp new id ≡ cond (is_eq (nat_cmp t.id id)) true (contains nat_cmp old id))
      → AreTemplates (take (i + 1) ts) new
  templates_more new tested updated id =
      updated id ∙ ap (λ b. cond b true (contains nat_cmp old id)) (same_number t.id id) ∙ one_more (t.id == id) (contains nat_cmp old id) ∙ next id true tested

  pub templates_same : is_template t ≡ false → AreTemplates (take (i + 1) ts) old
  templates_same other id = none_more (t.id == id) (contains nat_cmp old id) ∙ next id false other
