use Rattle.std.proofs.Common.{rules, [], codes, inl, inr, refl, string_bytes}
use Rattle.tb_my.specs.Undo.{kept_rest}
use Rattle.tb_caller.proofs.my_deeds.undo_in.Goals as goal

pub returns-then-is_empty-2-clause-asked : goal.returns-then-is_empty-2-clause-asked
returns-then-is_empty-2-clause-asked g c =
    let has = g.F.Folder.has in
    let kept = string_bytes c.in-Some.kept in
    let had : has c.args.folder.now (codes "undo") kept = search rules in
    let left : has c.put.new.self (codes "undo") (kept_rest kept) = search rules in
    ([], (refl, refl, refl), inr (kept, (had, left, inl (refl, refl, refl))))
