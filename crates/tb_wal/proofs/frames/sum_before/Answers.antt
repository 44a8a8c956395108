use Rattle.std.proofs.Common.{◌≡◌, ◌≤◌, ◌+◌, ◌-◌, ◌*◌, ℕ, zero, suc, arith, refl}
use Rattle.std.proofs.Math.Nat.{suc-mul}
use Rattle.sqlite_wal.specs.Recovery.{frame_at, frames_len}
use Rattle.tb_wal.proofs.frames.sum_before.Goals as goal

one_less : (place size long : ℕ) → (place ≡ 0 → ⊥) → frame_at size place + (24 + size) ≤ long → frame_at size (place - 1) + (24 + size) ≤ long
unfolding frames_len
one_less zero size long some within = absurd (some refl)
one_less (suc place) size long some within =
    let before : suc place - 1 ≡ place = omega arith in
    let here : suc place * (24 + size) ≡ place * (24 + size) + (24 + size) = suc-mul place (24 + size) in
    rw before (omega (arith, within, here))

pub frame_of-requires : goal.frame_of-requires
frame_of-requires c = one_less c.args.place c.args.page_size _ c.if-place-eq0.false c.requires
