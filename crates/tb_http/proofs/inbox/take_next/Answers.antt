use Rattle.tb_http.proofs.OpenHeadLemmas.{open_at_start}
use Rattle.tb_http.proofs.inbox.take_next.Goals as goal

pub take_begun_or_begin-requires-clause-read : goal.take_begun_or_begin-requires-clause-read
take_begun_or_begin-requires-clause-read c = rw c.deref.ensures.value c.requires.read

pub take_begun_or_begin-requires-clause-begun : goal.take_begun_or_begin-requires-clause-begun
take_begun_or_begin-requires-clause-begun c = rw c.deref.ensures.value c.requires.begun

pub returns-in_err-started-clause-read : goal.returns-in_err-started-clause-read
returns-in_err-started-clause-read c = rw c.deref.ensures.value at c.take_begun_or_begin.ensures.read

pub returns-in_err-started-clause-begun : goal.returns-in_err-started-clause-begun
returns-in_err-started-clause-begun c = rw c.take_begun_or_begin.ensures.taken tt

pub returns-in_default-clause-read : goal.returns-in_default-clause-read
returns-in_default-clause-read c = rw c.deref.ensures.value at c.take_begun_or_begin.ensures.read

pub returns-in_default-clause-begun : goal.returns-in_default-clause-begun
returns-in_default-clause-begun c = rw c.take_begun_or_begin.ensures.taken tt

pub returns-then-len-started-clause-read : goal.returns-then-len-started-clause-read
returns-then-len-started-clause-read c = rw c.deref.ensures.value at c.take_begun_or_begin.ensures.read

pub returns-in_err-taken-clause-read : goal.returns-in_err-taken-clause-read
returns-in_err-taken-clause-read c =
    let read = rw c.deref.ensures.value at c.take_begun_or_begin.ensures.read in
    rw c.in_err-taken.ensures.same read

pub returns-in_err-taken-clause-begun : goal.returns-in_err-taken-clause-begun
returns-in_err-taken-clause-begun c = rw c.take_begun_or_begin.ensures.taken tt

pub returns-clause-read : goal.returns-clause-read
returns-clause-read c = rw c.new.ensures (open_at_start _)

pub returns-clause-begun : goal.returns-clause-begun
returns-clause-begun c = rw c.take_begun_or_begin.ensures.taken tt

pub returns-clause-message : goal.returns-clause-message
returns-clause-message c = rw c.release_room.ensures c.in_ok-taken.ensures.message
