use Rattle.std.proofs.Common.{◌∙◌, Err, true≢false, sym, ap, inl, inr, refl}
use Rattle.sqlite.specs.Held.{state}
use Rattle.tb_sql_tables.specs.Content.{AreRows, Stands}
use Rattle.tb_lookup.specs.Stored.{IsStored}
use Rattle.tb_lookup.specs.Migrating.{IsStoredOld, IsStoredSecond}
use Rattle.tb_lookup.proofs.Standing.{before_then, fails_then, stored_again}
use Rattle.tb_keeper.proofs.Holding.{first_held}
use Rattle.tb_keeper.proofs.Taken.{first_not_second, first_not_third, left_old, second_not_third, stood_old, stood_second}
use Rattle.tb_keeper.proofs.sql_keep.SqlKeep.open.Goals as goal

-- ---- it is no store

pub returns-in-Err-clause-stopped : goal.returns-in-Err-clause-stopped
returns-in-Err-clause-stopped g c opened s trees =
    left_old s (state g.S.Store c.args.conn) (state g.S.Store c.accept.new.conn) (c.in-Err.ensures.old opened) (c.in-Err.ensures.earlier opened) trees

pub returns-in-Err-clause-hides : goal.returns-in-Err-clause-hides
returns-in-Err-clause-hides g c is = c.in-Err.ensures.hides (ap Err is)

-- ---- it is one of the first version

pub returns-in-Ok-migrated-clause-tables : goal.returns-in-Ok-migrated-clause-tables
returns-in-Ok-migrated-clause-tables g c = rw c.into_keep.ensures (c.in-Ok.ensures.tables)

pub returns-in-Ok-migrated-clause-version : goal.returns-in-Ok-migrated-clause-version
returns-in-Ok-migrated-clause-version g c first = rw c.into_keep.ensures (λ clean. c.in-Ok.ensures.answered (c.in-Ok-migrated.ensures.clean clean) first)

pub returns-in-Ok-migrated-clause-holds : goal.returns-in-Ok-migrated-clause-holds
returns-in-Ok-migrated-clause-holds g c = rw c.into_keep.ensures (λ third. absurd (first_not_third (sym c.in-First.is ∙ third)))

pub returns-in-Ok-migrated-clause-opened : goal.returns-in-Ok-migrated-clause-opened
returns-in-Ok-migrated-clause-opened g c = rw c.into_keep.ensures (λ clean opened s trees. absurd (first_not_third (sym c.in-First.is ∙ c.in-Ok.ensures.third opened trees.content trees.stored)))

pub returns-in-Ok-migrated-clause-migrated : goal.returns-in-Ok-migrated-clause-migrated
returns-in-Ok-migrated-clause-migrated g c = rw c.into_keep.ensures (λ clean opened s trees.
    let mid = state g.S.Store c.accept.new.conn in
    elim trees [
      | inl first ↦
          let stored : IsStoredOld s mid = record { content = first.content; rows = first.rows; stands = c.in-Ok.ensures.old opened first.content first.stored; idle = c.in-Ok.ensures.idle } in
          c.in-Ok-migrated.ensures.held clean s stored
      | inr second ↦ absurd (first_not_second (sym c.in-First.is ∙ c.in-Ok.ensures.second opened second.content second.stored))
    ])

pub returns-in-Ok-migrated-clause-same : goal.returns-in-Ok-migrated-clause-same
returns-in-Ok-migrated-clause-same g c = rw c.into_keep.ensures (λ third. absurd (first_not_third (sym c.in-First.is ∙ third)))

pub returns-in-Err-Memory-clause-refused : goal.returns-in-Err-Memory-clause-refused
returns-in-Err-Memory-clause-refused g c other =
    before_then (state g.S.Store c.args.conn) (state g.S.Store c.accept.new.conn) (state g.S.Store c.migrated.new.conn) c.in-Ok.ensures.same (c.in-Err-Memory.ensures.memory (ap Err c.in-Err-Memory.field-0-is))

pub returns-in-Err-Memory-clause-stopped : goal.returns-in-Err-Memory-clause-stopped
returns-in-Err-Memory-clause-stopped g c opened s trees =
    let mid = state g.S.Store c.accept.new.conn in
    let new = state g.S.Store c.migrated.new.conn in
    let same = c.in-Err-Memory.ensures.memory (ap Err c.in-Err-Memory.field-0-is) in
    left_old s (state g.S.Store c.args.conn) new (λ content rows. stood_old content mid new (c.in-Ok.ensures.old opened content rows) same)
    (λ content rows. stood_second content mid new (c.in-Ok.ensures.earlier opened content rows) same) trees

pub returns-in-Err-Store-clause-refused : goal.returns-in-Err-Store-clause-refused
returns-in-Err-Store-clause-refused g c (inl other) = absurd (other refl)
returns-in-Err-Store-clause-refused g c (inr none) = absurd (true≢false (sym (rw c.in-First.is at c.in-Ok.ensures.tables) ∙ none.0))

pub returns-in-Err-Store-clause-stopped : goal.returns-in-Err-Store-clause-stopped
returns-in-Err-Store-clause-stopped g c opened s (inl first) =
    let mid = state g.S.Store c.accept.new.conn in
    let stored : IsStoredOld s mid = record { content = first.content; rows = first.rows; stands = c.in-Ok.ensures.old opened first.content first.stored; idle = c.in-Ok.ensures.idle } in
    inl (c.in-Err-Store.ensures.store (ap Err c.in-Err-Store.field-0-is) s stored)
returns-in-Err-Store-clause-stopped g c opened s (inr second) = absurd (first_not_second (sym c.in-First.is ∙ c.in-Ok.ensures.second opened second.content second.stored))

pub returns-in-Err-Store-clause-excused : goal.returns-in-Err-Store-clause-excused
returns-in-Err-Store-clause-excused g c is opened clean ready content rows = absurd (first_not_third (sym c.in-First.is ∙ c.in-Ok.ensures.third opened content rows))

pub returns-in-Err-Store-clause-hides : goal.returns-in-Err-Store-clause-hides
returns-in-Err-Store-clause-hides g c is clean ready version other store = absurd (c.in-Ok.ensures.others (c.in-Err-Store.ensures.clean clean) version other store)

-- ---- it is one of the second

pub returns-in-Ok-widened-clause-tables : goal.returns-in-Ok-widened-clause-tables
returns-in-Ok-widened-clause-tables g c = rw c.into_keep-in-Ok-widened.ensures (c.in-Ok.ensures.tables)

pub returns-in-Ok-widened-clause-version : goal.returns-in-Ok-widened-clause-version
returns-in-Ok-widened-clause-version g c first = rw c.into_keep-in-Ok-widened.ensures (λ clean. c.in-Ok.ensures.answered (c.in-Ok-widened.ensures.clean clean) first)

pub returns-in-Ok-widened-clause-holds : goal.returns-in-Ok-widened-clause-holds
returns-in-Ok-widened-clause-holds g c = rw c.into_keep-in-Ok-widened.ensures (λ third. absurd (second_not_third (sym c.in-Second.is ∙ third)))

pub returns-in-Ok-widened-clause-opened : goal.returns-in-Ok-widened-clause-opened
returns-in-Ok-widened-clause-opened g c = rw c.into_keep-in-Ok-widened.ensures (λ clean opened s trees. absurd (second_not_third (sym c.in-Second.is ∙ c.in-Ok.ensures.third opened trees.content trees.stored)))

pub returns-in-Ok-widened-clause-migrated : goal.returns-in-Ok-widened-clause-migrated
returns-in-Ok-widened-clause-migrated g c = rw c.into_keep-in-Ok-widened.ensures (λ clean opened s trees.
    let mid = state g.S.Store c.accept.new.conn in
    elim trees [
      | inl first ↦ absurd (first_not_second (sym (c.in-Ok.ensures.first opened first.content first.stored) ∙ c.in-Second.is))
      | inr second ↦
          let stored : IsStoredSecond s mid = record { content = second.content; rows = second.rows; stands = c.in-Ok.ensures.earlier opened second.content second.stored; idle = c.in-Ok.ensures.idle } in
          c.in-Ok-widened.ensures.held clean s stored
    ])

pub returns-in-Ok-widened-clause-same : goal.returns-in-Ok-widened-clause-same
returns-in-Ok-widened-clause-same g c = rw c.into_keep-in-Ok-widened.ensures (λ third. absurd (second_not_third (sym c.in-Second.is ∙ third)))

pub returns-in-Err-Memory-widened-clause-refused : goal.returns-in-Err-Memory-widened-clause-refused
returns-in-Err-Memory-widened-clause-refused g c other =
    before_then (state g.S.Store c.args.conn) (state g.S.Store c.accept.new.conn) (state g.S.Store c.widened.new.conn) c.in-Ok.ensures.same (c.in-Err-Memory-widened.ensures.memory (ap Err c.in-Err-Memory-widened.field-0-is))

pub returns-in-Err-Memory-widened-clause-stopped : goal.returns-in-Err-Memory-widened-clause-stopped
returns-in-Err-Memory-widened-clause-stopped g c opened s trees =
    let mid = state g.S.Store c.accept.new.conn in
    let new = state g.S.Store c.widened.new.conn in
    let same = c.in-Err-Memory-widened.ensures.memory (ap Err c.in-Err-Memory-widened.field-0-is) in
    left_old s (state g.S.Store c.args.conn) new (λ content rows. stood_old content mid new (c.in-Ok.ensures.old opened content rows) same)
    (λ content rows. stood_second content mid new (c.in-Ok.ensures.earlier opened content rows) same) trees

pub returns-in-Err-Store-widened-clause-refused : goal.returns-in-Err-Store-widened-clause-refused
returns-in-Err-Store-widened-clause-refused g c (inl other) = absurd (other refl)
returns-in-Err-Store-widened-clause-refused g c (inr none) = absurd (true≢false (sym (rw c.in-Second.is at c.in-Ok.ensures.tables) ∙ none.1))

pub returns-in-Err-Store-widened-clause-stopped : goal.returns-in-Err-Store-widened-clause-stopped
returns-in-Err-Store-widened-clause-stopped g c opened s (inl first) = absurd (first_not_second (sym (c.in-Ok.ensures.first opened first.content first.stored) ∙ c.in-Second.is))
returns-in-Err-Store-widened-clause-stopped g c opened s (inr second) =
    let mid = state g.S.Store c.accept.new.conn in
    let stored : IsStoredSecond s mid = record { content = second.content; rows = second.rows; stands = c.in-Ok.ensures.earlier opened second.content second.stored; idle = c.in-Ok.ensures.idle } in
    inr (c.in-Err-Store-widened.ensures.store (ap Err c.in-Err-Store-widened.field-0-is) s stored)

pub returns-in-Err-Store-widened-clause-excused : goal.returns-in-Err-Store-widened-clause-excused
returns-in-Err-Store-widened-clause-excused g c is opened clean ready content rows = absurd (second_not_third (sym c.in-Second.is ∙ c.in-Ok.ensures.third opened content rows))

pub returns-in-Err-Store-widened-clause-hides : goal.returns-in-Err-Store-widened-clause-hides
returns-in-Err-Store-widened-clause-hides g c is clean ready version other store = absurd (c.in-Ok.ensures.others (c.in-Err-Store-widened.ensures.clean clean) version other store)

-- ---- it is one of today's

pub returns-in-Ok-at_hand-clause-tables : goal.returns-in-Ok-at_hand-clause-tables
returns-in-Ok-at_hand-clause-tables g c = rw c.into_keep-in-Ok-at_hand.ensures (c.in-Ok.ensures.tables)

pub returns-in-Ok-at_hand-clause-version : goal.returns-in-Ok-at_hand-clause-version
returns-in-Ok-at_hand-clause-version g c first = rw c.into_keep-in-Ok-at_hand.ensures (λ clean. c.in-Ok.ensures.answered (c.in-Ok-at_hand.ensures.same.clean clean) first)

pub returns-in-Ok-at_hand-clause-holds : goal.returns-in-Ok-at_hand-clause-holds
returns-in-Ok-at_hand-clause-holds g c = rw c.into_keep-in-Ok-at_hand.ensures (λ third clean s stored.
    let mid = state g.S.Store c.accept.new.conn in
    let accepted : IsStored s mid = stored_again s (state g.S.Store c.args.conn) mid stored c.in-Ok.ensures.same c.in-Ok.ensures.idle in
    first_held c.in-Ok-at_hand.hand.people c.in-Ok-at_hand.hand.boards c.in-Ok-at_hand.hand.cache.entries mid (state g.S.Store c.at_hand.new.conn) s accepted c.in-Ok-at_hand.ensures.same c.in-Ok-at_hand.ensures.idle c.in-Ok-at_hand.ensures.held)

pub returns-in-Ok-at_hand-clause-opened : goal.returns-in-Ok-at_hand-clause-opened
returns-in-Ok-at_hand-clause-opened g c = rw c.into_keep-in-Ok-at_hand.ensures (λ clean opened s trees.
    let mid = state g.S.Store c.accept.new.conn in
    let accepted : IsStored s mid = record { content = trees.content; rows = trees.rows; stands = c.in-Ok.ensures.shows opened trees.content trees.stored; idle = c.in-Ok.ensures.idle } in
    first_held c.in-Ok-at_hand.hand.people c.in-Ok-at_hand.hand.boards c.in-Ok-at_hand.hand.cache.entries mid (state g.S.Store c.at_hand.new.conn) s accepted c.in-Ok-at_hand.ensures.same c.in-Ok-at_hand.ensures.idle c.in-Ok-at_hand.ensures.held)

pub returns-in-Ok-at_hand-clause-migrated : goal.returns-in-Ok-at_hand-clause-migrated
returns-in-Ok-at_hand-clause-migrated g c = rw c.into_keep-in-Ok-at_hand.ensures (λ clean opened s trees. elim trees [
  | inl first ↦ absurd (first_not_third (sym (c.in-Ok.ensures.first opened first.content first.stored) ∙ c.in-Third.is))
  | inr second ↦ absurd (second_not_third (sym (c.in-Ok.ensures.second opened second.content second.stored) ∙ c.in-Third.is))
])

pub returns-in-Ok-at_hand-clause-same : goal.returns-in-Ok-at_hand-clause-same
returns-in-Ok-at_hand-clause-same g c = rw c.into_keep-in-Ok-at_hand.ensures (λ third. before_then (state g.S.Store c.args.conn) (state g.S.Store c.accept.new.conn) (state g.S.Store c.at_hand.new.conn) c.in-Ok.ensures.same c.in-Ok-at_hand.ensures.same)

pub returns-in-Err-Memory-at_hand-clause-stopped : goal.returns-in-Err-Memory-at_hand-clause-stopped
returns-in-Err-Memory-at_hand-clause-stopped g c opened s (inl first) = absurd (first_not_third (sym (c.in-Ok.ensures.first opened first.content first.stored) ∙ c.in-Third.is))
returns-in-Err-Memory-at_hand-clause-stopped g c opened s (inr second) = absurd (second_not_third (sym (c.in-Ok.ensures.second opened second.content second.stored) ∙ c.in-Third.is))

pub returns-in-Err-Store-at_hand-clause-stopped : goal.returns-in-Err-Store-at_hand-clause-stopped
returns-in-Err-Store-at_hand-clause-stopped g c opened s (inl first) = absurd (first_not_third (sym (c.in-Ok.ensures.first opened first.content first.stored) ∙ c.in-Third.is))
returns-in-Err-Store-at_hand-clause-stopped g c opened s (inr second) = absurd (second_not_third (sym (c.in-Ok.ensures.second opened second.content second.stored) ∙ c.in-Third.is))

pub returns-in-Err-Store-at_hand-clause-excused : goal.returns-in-Err-Store-at_hand-clause-excused
returns-in-Err-Store-at_hand-clause-excused g c is opened =
    let old = state g.S.Store c.args.conn in
    let mid = state g.S.Store c.accept.new.conn in
    let new = state g.S.Store c.at_hand.new.conn in
    let taken = c.in-Ok.ensures in
    let hand = c.in-Err-Store-at_hand.ensures in
    fails_then (λ content. AreRows content old.now.trees) (λ content. Stands content mid) old mid new (λ _ _ content rows. taken.shows opened content rows) taken.faults hand.same.clean hand.faults (hand.excused (ap Err c.in-Err-Store-at_hand.field-0-is))

pub returns-in-Err-Store-at_hand-clause-hides : goal.returns-in-Err-Store-at_hand-clause-hides
returns-in-Err-Store-at_hand-clause-hides g c is clean ready version other store = absurd (c.in-Ok.ensures.others (c.in-Err-Store-at_hand.ensures.same.clean clean) version other store)
