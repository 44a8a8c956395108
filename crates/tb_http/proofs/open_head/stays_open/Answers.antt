use Rattle.std.proofs.Common.{length, refl}
use Rattle.tb_http.proofs.OpenHeadLemmas.{line_read, line_up_to, open_head_is_open, open_searched}
use Rattle.tb_http.proofs.open_head.stays_open.Goals as goal

pub read_line-requires : goal.read_line-requires
read_line-requires c =
    let found = c.in-Some.ensures in
    line_up_to c.args.held.now c.loop-end.so_far c.in-Some.end c.loop-end.invariant found.0 found.1 found.2 found.3

pub loop-end-preserved : goal.loop-end-preserved
loop-end-preserved c =
    let found = c.in-Some.ensures in
    line_read c.args.held.now c.loop-end.so_far c.in-Some.end c.in-Some-read_line.is_in_fields c.loop-end.invariant found.0 found.1 c.in-Some-read_line.ensures

pub returns-clause-stays : goal.returns-clause-stays
returns-clause-stays c _ =
    let held = c.args.held.now in
    let searched = open_searched held c.loop-end.so_far c.loop-end.invariant c.in_default.ensures in
    open_head_is_open held (record c.loop-end.so_far { searched = length held }) searched refl
