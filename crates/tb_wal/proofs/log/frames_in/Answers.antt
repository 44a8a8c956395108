use Rattle.std.proofs.Common.{◌≤◌, ◌<◌, ◌+◌, ◌-◌, ◌*◌, ◌/◌, ℕ, zero, suc, arith, length}
use Rattle.std.proofs.Math.Nat.{suc-mul, le-div_iff_mul-le}
use Rattle.sqlite_wal.specs.Recovery.{frame_at, frames_len}
use Rattle.tb_wal.proofs.log.frames_in.Goals as goal

within : (size long i : ℕ) → 32 ≤ long → i < (long - 32) / (24 + size) → frame_at size i + (24 + size) ≤ long
unfolding frames_len
within size long i header less =
    let some : zero < 24 + size = omega arith in
    let whole : suc i * (24 + size) ≤ long - 32 = (le-div_iff_mul-le {k = 24 + size} {x = suc i} {y = long - 32} some).0 (omega (arith, less)) in
    let here = suc-mul i (24 + size) in
    omega (arith, whole, here, header)

all : (size long i : ℕ) → frame_at size i + (24 + size) ≤ long → i < (long - 32) / (24 + size)
unfolding frames_len
all size long i inside =
    let some : zero < 24 + size = omega arith in
    let here = suc-mul i (24 + size) in
    let less : suc i ≤ (long - 32) / (24 + size) = (le-div_iff_mul-le {k = 24 + size} {x = suc i} {y = long - 32} some).1 (omega (arith, here, inside)) in
    omega (arith, less)

pub returns-clause-within : goal.returns-clause-within
returns-clause-within c i less = within c.args.page_size (length c.args.log.now) i c.requires.header less

pub returns-clause-all : goal.returns-clause-all
returns-clause-all c i inside = all c.args.page_size (length c.args.log.now) i inside
