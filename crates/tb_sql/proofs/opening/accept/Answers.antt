use Rattle.std.proofs.Common.{◌≡◌, ◌∙◌, List, [], ◌∷◌, codes, Ok, Err, true, false, refl, sym, ap, inl, inr}
use Rattle.sqlite.specs.Held.{state}
use Rattle.tb_sql_tables.specs.declared.rows.MetaRow.{MetaRow}
use Rattle.tb_sql_tables.specs.Content.{AreOldRows, AreRows, AreSecondRows, IsContent}
use Rattle.tb_sql_tables.specs.Standing.{IsOldContent, IsSecondContent}
use Rattle.tb_sql.specs.Opening.{chosen, has_meta, has_tables, if_there, is_old, is_ours, is_second, judged, taken}
use Rattle.tb_sql_tables.proofs.Changing.{at_ok}
use Rattle.tb_sql.specs.declared.opening.OpenFault.TheVariants.{NotOurs, Store, WrongVersion}
use Rattle.tb_sql.proofs.Opened.{first_refused, never_judged, never_refused, never_taken, on_ok, others_refused, taken_same, taken_tables, told_so, refused_taken, rows_first, rows_second, rows_third, opened_content, opened_stands, opened_stands_old, opened_stands_second, same_before, stands_again, store_has_meta}
use Rattle.tb_sql.proofs.opening.accept.Goals as goal

-- ---- no first table

pub returns-then-not-has_meta-clause-refuses : goal.returns-then-not-has_meta-clause-refuses
returns-then-not-has_meta-clause-refuses g c _ clean opened content rows =
    let s = state g.S.Store c.args.conn.now in
    let other : has_meta s.now.schema.tables ≡ false = ap (λ x. has_meta x.tables) (sym c.schema-4.ensures.value) ∙ sym c.has_meta.ensures ∙ c.if-not-has_meta.true in
    first_refused s content opened c.schema.ensures.live other rows

pub returns-then-not-has_meta-clause-told : goal.returns-then-not-has_meta-clause-told
returns-then-not-has_meta-clause-told g c clean schema metas stored =
    let other : has_meta c.args.conn.now.schema.tables ≡ false = ap (λ x. has_meta x.tables) (sym c.schema-4.ensures.value) ∙ sym c.has_meta.ensures ∙ c.if-not-has_meta.true in
    absurd (store_has_meta c.args.conn.now.schema schema other)

pub returns-then-not-has_meta-clause-old : goal.returns-then-not-has_meta-clause-old
returns-then-not-has_meta-clause-old g c opened content rows =
    let conn = c.args.conn.now in
    opened_stands_old (state g.S.Store conn) (λ db is_open. g.met.S.Store.settled conn.store db is_open) content opened c.schema.ensures.live rows

pub returns-then-not-has_meta-clause-earlier : goal.returns-then-not-has_meta-clause-earlier
returns-then-not-has_meta-clause-earlier g c opened content rows =
    let conn = c.args.conn.now in
    opened_stands_second (state g.S.Store conn) (λ db is_open. g.met.S.Store.settled conn.store db is_open) content opened c.schema.ensures.live rows

-- ---- its rows are not read

pub returns-in-Err-clause-old : goal.returns-in-Err-clause-old
returns-in-Err-clause-old g c opened content rows =
    let conn = c.args.conn.now in
    let old = state g.S.Store conn in
    let stands = opened_stands_old old (λ db is_open. g.met.S.Store.settled conn.store db is_open) content opened c.schema.ensures.live rows in
    stands_again (IsOldContent content) (AreOldRows content) old (state g.S.Store c.read_meta.new.conn) stands c.in-Err.ensures.same

pub returns-in-Err-clause-excused : goal.returns-in-Err-clause-excused
returns-in-Err-clause-excused g c is opened clean ready content rows =
    let s = state g.S.Store c.args.conn.now in
    let failed = told_so c.in-Err.fault c.of.result c.of.ensures.memory (cc) in
    c.in-Err.ensures.excused (ap Err failed) clean ready content (opened_content s content opened c.schema.ensures.live rows)

pub returns-in-Err-clause-hides : goal.returns-in-Err-clause-hides
returns-in-Err-clause-hides g c is =
    let failed = told_so c.in-Err.fault c.of.result c.of.ensures.memory (cc) in
    c.in-Err.ensures.hides (ap Err failed)

pub returns-in-Err-clause-earlier : goal.returns-in-Err-clause-earlier
returns-in-Err-clause-earlier g c opened content rows =
    let conn = c.args.conn.now in
    let old = state g.S.Store conn in
    let stands = opened_stands_second old (λ db is_open. g.met.S.Store.settled conn.store db is_open) content opened c.schema.ensures.live rows in
    stands_again (IsSecondContent content) (AreSecondRows content) old (state g.S.Store c.read_meta.new.conn) stands c.in-Err.ensures.same

-- ---- its rows are not those of a store

pub returns-in-Err-judge-clause-refuses : goal.returns-in-Err-judge-clause-refuses
returns-in-Err-judge-clause-refuses g c _ clean opened content rows =
    let s = state g.S.Store c.args.conn.now in
    let metas = c.in-Ok.metas in
    never_refused s content metas c.in-Err-judge.fault opened c.schema.ensures.live (c.in-Ok.ensures.told clean) rows
    (refused_taken s.now.schema metas c.in-Err-judge.fault (c.in-Err-judge.ensures ∙ ap judged c.as_slice.ensures))

pub returns-in-Err-judge-clause-old : goal.returns-in-Err-judge-clause-old
returns-in-Err-judge-clause-old g c opened content rows =
    let conn = c.args.conn.now in
    let old = state g.S.Store conn in
    let stands = opened_stands_old old (λ db is_open. g.met.S.Store.settled conn.store db is_open) content opened c.schema.ensures.live rows in
    stands_again (IsOldContent content) (AreOldRows content) old (state g.S.Store c.read_meta.new.conn) stands c.in-Ok.ensures.same

pub returns-in-Err-judge-clause-told : goal.returns-in-Err-judge-clause-told
returns-in-Err-judge-clause-told g c clean schema metas stored =
    let s = state g.S.Store c.args.conn.now in
    inl (refused_taken s.now.schema c.in-Ok.metas c.in-Err-judge.fault (c.in-Err-judge.ensures ∙ ap judged c.as_slice.ensures) ∙ taken_same s.now.schema metas c.in-Ok.metas (c.in-Ok.ensures.told clean schema metas stored))

pub returns-in-Err-judge-clause-answered : goal.returns-in-Err-judge-clause-answered
returns-in-Err-judge-clause-answered g c clean first =
    let metas = c.in-Ok.metas in
    inl (metas, c.in-Ok.ensures.shown clean, refused_taken c.args.conn.now.schema metas c.in-Err-judge.fault (c.in-Err-judge.ensures ∙ ap judged c.as_slice.ensures))

pub returns-in-Err-judge-clause-excused : goal.returns-in-Err-judge-clause-excused
returns-in-Err-judge-clause-excused g c is =
    let fault : c.in-Err-judge.fault ≡ Store = cc in
    absurd (never_judged c.as_slice.result.now (sym c.in-Err-judge.ensures ∙ ap Err fault))

pub returns-in-Err-judge-clause-hides : goal.returns-in-Err-judge-clause-hides
returns-in-Err-judge-clause-hides g c is =
    let fault : c.in-Err-judge.fault ≡ Store = cc in
    absurd (never_judged c.as_slice.result.now (sym c.in-Err-judge.ensures ∙ ap Err fault))

pub returns-in-Err-judge-clause-earlier : goal.returns-in-Err-judge-clause-earlier
returns-in-Err-judge-clause-earlier g c opened content rows =
    let conn = c.args.conn.now in
    let old = state g.S.Store conn in
    let stands = opened_stands_second old (λ db is_open. g.met.S.Store.settled conn.store db is_open) content opened c.schema.ensures.live rows in
    stands_again (IsSecondContent content) (AreSecondRows content) old (state g.S.Store c.read_meta.new.conn) stands c.in-Ok.ensures.same

-- ---- the tables and the rows choose

pub returns-clause-shows : goal.returns-clause-shows
returns-clause-shows g c =
    at_ok c.choose.result (λ opened content rows.
    let conn = c.args.conn.now in
    let old = state g.S.Store conn in
    let stands = opened_stands old (λ db is_open. g.met.S.Store.settled conn.store db is_open) content opened c.schema.ensures.live rows in
    stands_again (IsContent content) (AreRows content) old (state g.S.Store c.read_meta.new.conn) stands c.in-Ok.ensures.same)

pub returns-clause-old : goal.returns-clause-old
returns-clause-old g c opened content rows =
    let conn = c.args.conn.now in
    let old = state g.S.Store conn in
    let stands = opened_stands_old old (λ db is_open. g.met.S.Store.settled conn.store db is_open) content opened c.schema.ensures.live rows in
    stands_again (IsOldContent content) (AreOldRows content) old (state g.S.Store c.read_meta.new.conn) stands c.in-Ok.ensures.same

pub returns-clause-earlier : goal.returns-clause-earlier
returns-clause-earlier g c opened content rows =
    let conn = c.args.conn.now in
    let old = state g.S.Store conn in
    let stands = opened_stands_second old (λ db is_open. g.met.S.Store.settled conn.store db is_open) content opened c.schema.ensures.live rows in
    stands_again (IsSecondContent content) (AreSecondRows content) old (state g.S.Store c.read_meta.new.conn) stands c.in-Ok.ensures.same

pub returns-clause-tables : goal.returns-clause-tables
returns-clause-tables g c =
    let schema = c.args.conn.now.schema in
    let first : c.is_old-first.result ≡ is_old schema = c.is_old-first.ensures ∙ ap (λ x. is_old x) c.schema.ensures.value in
    let second : c.is_second-second.result ≡ is_second schema = c.is_second-second.ensures ∙ ap (λ x. is_second x) c.schema-2.ensures.value in
    let third : c.is_ours-third.result ≡ is_ours schema = c.is_ours-third.ensures ∙ ap (λ x. is_ours x) c.schema-3.ensures.value in
    let number = c.in-Ok-judge.number in
    let of_number : c.choose.result ≡ if_there schema (Ok number) =
    c.choose.ensures ∙ rw (first, second, third) refl in
    let whole : c.choose.result ≡ taken schema c.in-Ok.metas = of_number ∙ ap (if_there schema) (c.in-Ok-judge.ensures ∙ ap judged c.as_slice.ensures) in
    on_ok (λ version. has_tables version schema ≡ true) c.choose.result (λ version is. taken_tables schema c.in-Ok.metas version (sym whole ∙ is))

pub returns-clause-third : goal.returns-clause-third
returns-clause-third g c =
    let schema = c.args.conn.now.schema in
    let first : c.is_old-first.result ≡ is_old schema = c.is_old-first.ensures ∙ ap (λ x. is_old x) c.schema.ensures.value in
    let second : c.is_second-second.result ≡ is_second schema = c.is_second-second.ensures ∙ ap (λ x. is_second x) c.schema-2.ensures.value in
    let third : c.is_ours-third.result ≡ is_ours schema = c.is_ours-third.ensures ∙ ap (λ x. is_ours x) c.schema-3.ensures.value in
    let number = c.in-Ok-judge.number in
    let of_number : c.choose.result ≡ if_there schema (Ok number) =
    c.choose.ensures ∙ rw (first, second, third) refl in
    let whole : c.choose.result ≡ taken schema c.in-Ok.metas = of_number ∙ ap (if_there schema) (c.in-Ok-judge.ensures ∙ ap judged c.as_slice.ensures) in
    on_ok _ c.choose.result (λ version is opened content rows.
    rows_third (state g.S.Store c.args.conn.now) content version opened c.schema.ensures.live (taken_tables schema c.in-Ok.metas version (sym whole ∙ is)) rows)

pub returns-clause-second : goal.returns-clause-second
returns-clause-second g c =
    let schema = c.args.conn.now.schema in
    let first : c.is_old-first.result ≡ is_old schema = c.is_old-first.ensures ∙ ap (λ x. is_old x) c.schema.ensures.value in
    let second : c.is_second-second.result ≡ is_second schema = c.is_second-second.ensures ∙ ap (λ x. is_second x) c.schema-2.ensures.value in
    let third : c.is_ours-third.result ≡ is_ours schema = c.is_ours-third.ensures ∙ ap (λ x. is_ours x) c.schema-3.ensures.value in
    let number = c.in-Ok-judge.number in
    let of_number : c.choose.result ≡ if_there schema (Ok number) =
    c.choose.ensures ∙ rw (first, second, third) refl in
    let whole : c.choose.result ≡ taken schema c.in-Ok.metas = of_number ∙ ap (if_there schema) (c.in-Ok-judge.ensures ∙ ap judged c.as_slice.ensures) in
    on_ok _ c.choose.result (λ version is opened content rows.
    rows_second (state g.S.Store c.args.conn.now) content version opened c.schema.ensures.live (taken_tables schema c.in-Ok.metas version (sym whole ∙ is)) rows)

pub returns-clause-first : goal.returns-clause-first
returns-clause-first g c =
    let schema = c.args.conn.now.schema in
    let first : c.is_old-first.result ≡ is_old schema = c.is_old-first.ensures ∙ ap (λ x. is_old x) c.schema.ensures.value in
    let second : c.is_second-second.result ≡ is_second schema = c.is_second-second.ensures ∙ ap (λ x. is_second x) c.schema-2.ensures.value in
    let third : c.is_ours-third.result ≡ is_ours schema = c.is_ours-third.ensures ∙ ap (λ x. is_ours x) c.schema-3.ensures.value in
    let number = c.in-Ok-judge.number in
    let of_number : c.choose.result ≡ if_there schema (Ok number) =
    c.choose.ensures ∙ rw (first, second, third) refl in
    let whole : c.choose.result ≡ taken schema c.in-Ok.metas = of_number ∙ ap (if_there schema) (c.in-Ok-judge.ensures ∙ ap judged c.as_slice.ensures) in
    on_ok _ c.choose.result (λ version is opened content rows.
    rows_first (state g.S.Store c.args.conn.now) content version opened c.schema.ensures.live (taken_tables schema c.in-Ok.metas version (sym whole ∙ is)) rows)

pub returns-clause-refuses : goal.returns-clause-refuses
returns-clause-refuses g c refused clean opened content rows =
    let schema = c.args.conn.now.schema in
    let first : c.is_old-first.result ≡ is_old schema = c.is_old-first.ensures ∙ ap (λ x. is_old x) c.schema.ensures.value in
    let second : c.is_second-second.result ≡ is_second schema = c.is_second-second.ensures ∙ ap (λ x. is_second x) c.schema-2.ensures.value in
    let third : c.is_ours-third.result ≡ is_ours schema = c.is_ours-third.ensures ∙ ap (λ x. is_ours x) c.schema-3.ensures.value in
    let number = c.in-Ok-judge.number in
    let of_number : c.choose.result ≡ if_there schema (Ok number) =
    c.choose.ensures ∙ rw (first, second, third) refl in
    let whole : c.choose.result ≡ taken schema c.in-Ok.metas = of_number ∙ ap (if_there schema) (c.in-Ok-judge.ensures ∙ ap judged c.as_slice.ensures) in
    let s = state g.S.Store c.args.conn.now in
    let live = c.schema.ensures.live in
    let told = c.in-Ok.ensures.told clean in
    elim refused [
      | inl is ↦ never_refused s content c.in-Ok.metas NotOurs opened live told rows (sym is ∙ whole)
      | inr is ↦ never_refused s content c.in-Ok.metas WrongVersion opened live told rows (sym is ∙ whole)
    ]

pub returns-clause-told : goal.returns-clause-told
returns-clause-told g c clean known metas stored =
    let schema = c.args.conn.now.schema in
    let first : c.is_old-first.result ≡ is_old schema = c.is_old-first.ensures ∙ ap (λ x. is_old x) c.schema.ensures.value in
    let second : c.is_second-second.result ≡ is_second schema = c.is_second-second.ensures ∙ ap (λ x. is_second x) c.schema-2.ensures.value in
    let third : c.is_ours-third.result ≡ is_ours schema = c.is_ours-third.ensures ∙ ap (λ x. is_ours x) c.schema-3.ensures.value in
    let number = c.in-Ok-judge.number in
    let of_number : c.choose.result ≡ if_there schema (Ok number) =
    c.choose.ensures ∙ rw (first, second, third) refl in
    let whole : c.choose.result ≡ taken schema c.in-Ok.metas = of_number ∙ ap (if_there schema) (c.in-Ok-judge.ensures ∙ ap judged c.as_slice.ensures) in
    inl (whole ∙ taken_same schema metas c.in-Ok.metas (c.in-Ok.ensures.told clean known metas stored))

pub returns-clause-answered : goal.returns-clause-answered
returns-clause-answered g c clean has =
    let schema = c.args.conn.now.schema in
    let first : c.is_old-first.result ≡ is_old schema = c.is_old-first.ensures ∙ ap (λ x. is_old x) c.schema.ensures.value in
    let second : c.is_second-second.result ≡ is_second schema = c.is_second-second.ensures ∙ ap (λ x. is_second x) c.schema-2.ensures.value in
    let third : c.is_ours-third.result ≡ is_ours schema = c.is_ours-third.ensures ∙ ap (λ x. is_ours x) c.schema-3.ensures.value in
    let number = c.in-Ok-judge.number in
    let of_number : c.choose.result ≡ if_there schema (Ok number) =
    c.choose.ensures ∙ rw (first, second, third) refl in
    let whole : c.choose.result ≡ taken schema c.in-Ok.metas = of_number ∙ ap (if_there schema) (c.in-Ok-judge.ensures ∙ ap judged c.as_slice.ensures) in
    inl (c.in-Ok.metas, c.in-Ok.ensures.shown clean, whole)

pub returns-clause-others : goal.returns-clause-others
returns-clause-others g c =
    let schema = c.args.conn.now.schema in
    let first : c.is_old-first.result ≡ is_old schema = c.is_old-first.ensures ∙ ap (λ x. is_old x) c.schema.ensures.value in
    let second : c.is_second-second.result ≡ is_second schema = c.is_second-second.ensures ∙ ap (λ x. is_second x) c.schema-2.ensures.value in
    let third : c.is_ours-third.result ≡ is_ours schema = c.is_ours-third.ensures ∙ ap (λ x. is_ours x) c.schema-3.ensures.value in
    let number = c.in-Ok-judge.number in
    let of_number : c.choose.result ≡ if_there schema (Ok number) =
    c.choose.ensures ∙ rw (first, second, third) refl in
    let whole : c.choose.result ≡ taken schema c.in-Ok.metas = of_number ∙ ap (if_there schema) (c.in-Ok-judge.ensures ∙ ap judged c.as_slice.ensures) in
    on_ok _ c.choose.result (λ answer is clean version other store.
    let one : List MetaRow = record { kind = codes "taskboard"; version = version } ∷ [] in
    let metas = c.in-Ok.ensures.told clean (inl store.schema) one store.row in
    others_refused schema version answer other store.schema (sym (taken_same schema one c.in-Ok.metas metas) ∙ sym whole ∙ is))

pub returns-clause-excused : goal.returns-clause-excused
returns-clause-excused g c is =
    let schema = c.args.conn.now.schema in
    let first : c.is_old-first.result ≡ is_old schema = c.is_old-first.ensures ∙ ap (λ x. is_old x) c.schema.ensures.value in
    let second : c.is_second-second.result ≡ is_second schema = c.is_second-second.ensures ∙ ap (λ x. is_second x) c.schema-2.ensures.value in
    let third : c.is_ours-third.result ≡ is_ours schema = c.is_ours-third.ensures ∙ ap (λ x. is_ours x) c.schema-3.ensures.value in
    let number = c.in-Ok-judge.number in
    let of_number : c.choose.result ≡ if_there schema (Ok number) =
    c.choose.ensures ∙ rw (first, second, third) refl in
    let whole : c.choose.result ≡ taken schema c.in-Ok.metas = of_number ∙ ap (if_there schema) (c.in-Ok-judge.ensures ∙ ap judged c.as_slice.ensures) in
    absurd (never_taken schema c.in-Ok.metas (sym whole ∙ is))

pub returns-clause-hides : goal.returns-clause-hides
returns-clause-hides g c is =
    let schema = c.args.conn.now.schema in
    let first : c.is_old-first.result ≡ is_old schema = c.is_old-first.ensures ∙ ap (λ x. is_old x) c.schema.ensures.value in
    let second : c.is_second-second.result ≡ is_second schema = c.is_second-second.ensures ∙ ap (λ x. is_second x) c.schema-2.ensures.value in
    let third : c.is_ours-third.result ≡ is_ours schema = c.is_ours-third.ensures ∙ ap (λ x. is_ours x) c.schema-3.ensures.value in
    let number = c.in-Ok-judge.number in
    let of_number : c.choose.result ≡ if_there schema (Ok number) =
    c.choose.ensures ∙ rw (first, second, third) refl in
    let whole : c.choose.result ≡ taken schema c.in-Ok.metas = of_number ∙ ap (if_there schema) (c.in-Ok-judge.ensures ∙ ap judged c.as_slice.ensures) in
    absurd (never_taken schema c.in-Ok.metas (sym whole ∙ is))
