-- What is stored of a task is read as that task.
use Rattle.std.proofs.Common.{◌≡◌, ℕ, ◌+◌, true, List, [], ◌∷◌, ◌++◌, Option, Some, None, option_map, option_and_then, Ok, Less, codes, refl, ap, ◌∙◌}
use Rattle.std.specs.List.{AllByRecursion}
use Rattle.std.specs.List.Sorted.{IsStrictlySortedBy}
use Rattle.serde_json.specs.Data.{Data, string, Members, no_members}
use Rattle.serde_json.specs.Find.{get, get_member}
use Rattle.tb_task.specs.Attributes.{is_attribute}
use Rattle.tb_task.specs.Extra.{by_name}
use Rattle.tb_task.specs.Storable.{IsStorable}
use Rattle.tb_task.specs.TaskId.{IsRead}
use Rattle.tb_task.specs.declared.extra.Extra.{Extra}
use Rattle.tb_task.specs.declared.priority.Priority.{Priority}
use Rattle.tb_task.specs.declared.task.Task.{Task}
use Rattle.tb_values.specs.Outcome.{◌>>=◌}
use Rattle.tb_json.specs.Annotations.{annotations_form}
use Rattle.tb_json.specs.Attribute.{given, attribute, required, text_form, moment_form, id_form, status_form, mask_form, priority_form, value_kept, members_dropped, priority_in}
use Rattle.tb_json.specs.Extras.{extras_of, dropped_of, capped}
use Rattle.tb_json.specs.Fields.{fields_to_entry, fields_to_recur, fields_to_wait, fields_in, fields_of}
use Rattle.tb_json.specs.Lists.{tags_form, depends_form}
use Rattle.tb_json.specs.Numbers.{imask_form}
use Rattle.tb_json.specs.Stored.{stored_task}
use Rattle.tb_json.specs.Writing.{Field, with_fields, moment_data, id_data, status_data, priority_data, imask_data, texts_data, ids_data, annotations_data, extra_fields, early_fields, middle_fields, late_fields, members_of, task_json}
use Rattle.tb_json.specs.declared.fields.Fields.{Fields}
use Rattle.tb_json.specs.declared.fields.FieldsToEntry.{FieldsToEntry}
use Rattle.tb_json.specs.declared.fields.FieldsToRecur.{FieldsToRecur}
use Rattle.tb_json.specs.declared.fields.FieldsToWait.{FieldsToWait}
use Rattle.tb_json.proofs.Again.{moment_again, id_again, text_again, status_again, priority_again, imask_again, tags_again, depends_again, annotations_again, unless_none, unwrap_unless, in_order, extras-in_order, extras_again}
use Rattle.tb_json.proofs.ExtraSteps.{names_of}
use Rattle.tb_json.proofs.Lookups.{or_else, value_in, fields_at, or_nothing, extras_at, AreAttributes, extras-with_fields}
use Rattle.tb_values.proofs.TextSets.{text_cmp}

-- all the attributes that a stored text may have
abbrev attribute_fields : Task → List Field
attribute_fields t = early_fields t ++ middle_fields None t ++ late_fields t

all_below : (e : Extra) (es : List Extra) → AllByRecursion (λ x. by_name e x ≡ Less) es → AllByRecursion (λ name. text_cmp e.name name ≡ Less) (names_of es)
all_below e [] h = tt
all_below e (x ∷ es) h = (h.0, all_below e es h.1)

sorted_names : (es : List Extra) → IsStrictlySortedBy by_name es → IsStrictlySortedBy text_cmp (names_of es)
unfolding IsStrictlySortedBy
sorted_names [] h = tt
sorted_names (e ∷ es) h = (all_below e es h.0, sorted_names es h.1)

priority_kept : (o : Option Priority) → value_kept (option_map Some o) ≡ o
priority_kept None = refl
priority_kept (Some p) = refl

none_dropped : (o : Option Priority) → members_dropped (option_map Some o) ≡ 0
none_dropped None = refl
none_dropped (Some p) = refl

-- what is read of the text of a task
abbrev first_of : Task → FieldsToEntry
first_of t = record { annotations = t.annotations; depends = t.depends; description = t.description; due = t.due; end = t.end; entry = Some t.entry }

abbrev second_of : Task → FieldsToRecur
second_of t = record { imask = t.imask; mask = None; modified = t.modified; parent = t.parent; priority = t.priority; priorities_dropped = 0; project = t.project; recur = t.recur }

abbrev third_of : Task → FieldsToWait
third_of t = record { scheduled = t.scheduled; start = t.start; status = Some t.status; tags = t.tags; until = t.until; uuid = Some t.id; wait = t.wait }

module _ (law : IsRead) (t : Task) (h : IsStorable t) where
  -- the members with the extra attributes alone
  abbrev alone : Members
  alone = with_fields (extra_fields t.extras) no_members

  members_are : members_of None t ≡ with_fields (attribute_fields t) alone
  unfolding members_of
  members_are = refl

  at_name : (q : List ℕ) (o : Option Data) → is_attribute q ≡ true → ((base : Option Data) → value_in q (attribute_fields t) base ≡ or_else o base) → get q (task_json None t) ≡ o
  at_name q o known finds =
      let none : get_member q alone ≡ None = fields_at q (extra_fields t.extras) no_members ∙ extras_at q t.extras known h.extras None in
      ap (get_member q) members_are ∙ fields_at q (attribute_fields t) alone ∙ finds (get_member q alone) ∙ ap (or_else o) none ∙ or_nothing o

  -- ---- from annotations to entry

  annotations_found : attribute annotations_form (codes "annotations") (task_json None t) ≡ Ok (unless_none t.annotations)
  annotations_found = rw (at_name (codes "annotations") (annotations_data t.annotations) refl (λ base. refl)) (annotations_again (codes "annotations") t.annotations h.annotations)

  depends_found : attribute depends_form (codes "depends") (task_json None t) ≡ Ok (unless_none t.depends)
  depends_found = rw (at_name (codes "depends") (ids_data t.depends) refl (λ base. refl)) (depends_again law (codes "depends") t.depends h.depends h.links)

  description_found : required text_form (codes "description") (task_json None t) ≡ Ok t.description
  description_found = rw (at_name (codes "description") (Some (string t.description)) refl (λ base. refl)) refl

  due_found : attribute moment_form (codes "due") (task_json None t) ≡ Ok (t.due)
  due_found = rw (at_name (codes "due") (option_map moment_data t.due) refl (λ base. refl)) (moment_again (codes "due") t.due h.moments.due)

  end_found : attribute moment_form (codes "end") (task_json None t) ≡ Ok (t.end)
  end_found = rw (at_name (codes "end") (option_map moment_data t.end) refl (λ base. refl)) (moment_again (codes "end") t.end h.moments.end)

  entry_found : attribute moment_form (codes "entry") (task_json None t) ≡ Ok (Some t.entry)
  entry_found = rw (at_name (codes "entry") (Some (moment_data t.entry)) refl (λ base. refl)) (moment_again (codes "entry") (Some t.entry) h.moments.entry)

  first_found : fields_to_entry (task_json None t) ≡ Ok (first_of t)
  unfolding fields_to_entry
  first_found = rw (annotations_found, depends_found, description_found, due_found, end_found, entry_found, unwrap_unless t.annotations, unwrap_unless t.depends) refl

  -- ---- from imask to recur

  imask_found : option_and_then imask_form (given (codes "imask") (task_json None t)) ≡ t.imask
  imask_found = rw (at_name (codes "imask") (option_map imask_data t.imask) refl (λ base. refl)) (imask_again t.imask h.imask)

  mask_found : attribute mask_form (codes "mask") (task_json None t) ≡ Ok None
  mask_found = rw (at_name (codes "mask") None refl (λ base. refl)) refl

  modified_found : attribute moment_form (codes "modified") (task_json None t) ≡ Ok (t.modified)
  modified_found = rw (at_name (codes "modified") (option_map moment_data t.modified) refl (λ base. refl)) (moment_again (codes "modified") t.modified h.moments.modified)

  parent_found : attribute id_form (codes "parent") (task_json None t) ≡ Ok (t.parent)
  parent_found = rw (at_name (codes "parent") (option_map id_data t.parent) refl (λ base. refl)) (id_again law (codes "parent") t.parent h.parent)

  priority_found : attribute priority_form (codes "priority") (task_json None t) ≡ Ok (option_map Some t.priority)
  priority_found = rw (at_name (codes "priority") (option_map priority_data t.priority) refl (λ base. refl)) (priority_again (codes "priority") t.priority)

  priority_in_found : priority_in (task_json None t) ≡ Ok (t.priority, 0)
  priority_in_found = rw (priority_found, priority_kept t.priority, none_dropped t.priority) refl

  project_found : attribute text_form (codes "project") (task_json None t) ≡ Ok (t.project)
  project_found = rw (at_name (codes "project") (option_map string t.project) refl (λ base. refl)) (text_again (codes "project") t.project h.project)

  recur_found : attribute text_form (codes "recur") (task_json None t) ≡ Ok (t.recur)
  recur_found = rw (at_name (codes "recur") (option_map string t.recur) refl (λ base. refl)) (text_again (codes "recur") t.recur h.recur)

  second_found : fields_to_recur (task_json None t) ≡ Ok (second_of t)
  unfolding fields_to_recur
  second_found = rw (mask_found, modified_found, parent_found, priority_in_found, project_found, recur_found, imask_found) refl

  -- ---- from scheduled to wait

  scheduled_found : attribute moment_form (codes "scheduled") (task_json None t) ≡ Ok (t.scheduled)
  scheduled_found = rw (at_name (codes "scheduled") (option_map moment_data t.scheduled) refl (λ base. refl)) (moment_again (codes "scheduled") t.scheduled h.moments.scheduled)

  start_found : attribute moment_form (codes "start") (task_json None t) ≡ Ok (t.start)
  start_found = rw (at_name (codes "start") (option_map moment_data t.start) refl (λ base. refl)) (moment_again (codes "start") t.start h.moments.start)

  status_found : attribute status_form (codes "status") (task_json None t) ≡ Ok (Some t.status)
  status_found = rw (at_name (codes "status") (Some (status_data t.status)) refl (λ base. refl)) (status_again (codes "status") t.status)

  tags_found : attribute tags_form (codes "tags") (task_json None t) ≡ Ok (unless_none t.tags)
  tags_found = rw (at_name (codes "tags") (texts_data t.tags) refl (λ base. refl)) (tags_again (codes "tags") t.tags h.tags)

  until_found : attribute moment_form (codes "until") (task_json None t) ≡ Ok (t.until)
  until_found = rw (at_name (codes "until") (option_map moment_data t.until) refl (λ base. refl)) (moment_again (codes "until") t.until h.moments.until)

  uuid_found : attribute id_form (codes "uuid") (task_json None t) ≡ Ok (Some t.id)
  uuid_found = rw (at_name (codes "uuid") (Some (id_data t.id)) refl (λ base. refl)) (id_again law (codes "uuid") (Some t.id) h.id)

  wait_found : attribute moment_form (codes "wait") (task_json None t) ≡ Ok (t.wait)
  wait_found = rw (at_name (codes "wait") (option_map moment_data t.wait) refl (λ base. refl)) (moment_again (codes "wait") t.wait h.moments.wait)

  third_found : fields_to_wait (task_json None t) ≡ Ok (third_of t)
  unfolding fields_to_wait
  third_found = rw (scheduled_found, start_found, status_found, tags_found, until_found, uuid_found, wait_found, unwrap_unless t.tags) refl

  -- ---- all of them

  all_attributes : AreAttributes (attribute_fields t)
  all_attributes = (refl, (refl, (refl, (refl, (refl, (refl, (refl, (refl, (refl, (refl, (refl, (refl, (refl, (refl, (refl, (refl, (refl, (refl, (refl, (refl, tt))))))))))))))))))))

  alone_in_order : alone ≡ in_order t.extras
  alone_in_order = extras-in_order t.extras no_members (sorted_names t.extras h.names)

  extras_found : extras_of (members_of None t) ≡ t.extras
  extras_found =
      ap extras_of members_are ∙ extras-with_fields (attribute_fields t) alone all_attributes ∙ ap extras_of alone_in_order ∙ extras_again t.extras h.extras

  abbrev all_of : Fields
  all_of = record { first = first_of t; second = second_of t; third = third_of t; extras = t.extras; dropped = capped (dropped_of (members_of None t) + 0) }

  all_found : fields_of (task_json None t) ≡ Ok all_of
  unfolding fields_in
  all_found = rw (first_found, second_found, third_found, extras_found) refl

  -- what is written of a task reads as that task
  pub task_found : fields_of (task_json None t) >>= stored_task ≡ Ok t
  unfolding stored_task
  task_found = rw all_found refl
