-- Each kind is found by its number.
use Rattle.std.proofs.Common.{refl}
use Rattle.tb_deeds.specs.declared.kind.DeedKind.TheVariants.{Add, Done, Delete, Reopen, Start, Stop, Modify, Annotate, Denotate, Depend, Undepend, Import, ImportTodo, Role, Ahead, Sweep, Take, Title}
use Rattle.tb_deeds.specs.Kinds.{kind_of_number}
use Rattle.tb_deeds.specs.Laws.{KindsHaveNumbers}

pub kind_found : KindsHaveNumbers
unfolding kind_of_number
kind_found Add = refl
kind_found Done = refl
kind_found Delete = refl
kind_found Reopen = refl
kind_found Start = refl
kind_found Stop = refl
kind_found Modify = refl
kind_found Annotate = refl
kind_found Denotate = refl
kind_found Depend = refl
kind_found Undepend = refl
kind_found Import = refl
kind_found ImportTodo = refl
kind_found Role = refl
kind_found Ahead = refl
kind_found Sweep = refl
kind_found Take = refl
kind_found Title = refl
