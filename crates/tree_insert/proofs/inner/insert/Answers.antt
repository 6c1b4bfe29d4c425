-- `inner::insert` meets its contract.
-- Assumes nothing.
use Rattle.std.proofs.Common.{◌∙◌, ap}
use Rattle.std.specs.Prelude.{Ok}
use Rattle.tree_insert.specs.InsertLaws.{fit_asked, insert_added, insert_asked, insert_refused, insert_replaced, write_asked}
use Rattle.tree_insert.proofs.inner.insert.Goals as goal

pub write_old-old-requires : goal.write_old-old-requires
write_old-old-requires c = write_asked c.args.key.now c.args.value.now c.args.out.now c.new-view.ensures c.judge.ensures (c.in-Ok-Replace.is ∙ ap Ok c.in-Ok-Replace.field-0-is)

pub split_if_full-placed-requires : goal.split_if_full-placed-requires
split_if_full-placed-requires c =
    fit_asked c.args.key.now c.args.value.now c.args.out.now c.new-view.ensures c.judge.ensures (c.in-Ok-Insert.is ∙ ap Ok c.in-Ok-Insert.field-0-is) c.requires

pub insert_pair-header-requires : goal.insert_pair-header-requires
insert_pair-header-requires c =
    insert_asked c.args.key.now c.args.value.now c.args.out.now c.new-view.ensures c.judge.ensures (c.in-Ok-Insert.is ∙ ap Ok c.in-Ok-Insert.field-0-is)
    c.split_if_full-placed.ensures c.requires

pub returns-in-Err : goal.returns-in-Err
returns-in-Err c =
    insert_refused c.args.key.now c.args.value.now c.args.out.now c.new-view.ensures c.judge.ensures c.in-Err.is

pub returns-in-Ok-Replace : goal.returns-in-Ok-Replace
returns-in-Ok-Replace c =
    insert_replaced c.args.key.now c.args.value.now c.args.out.now c.new-view.ensures c.judge.ensures (c.in-Ok-Replace.is ∙ ap Ok c.in-Ok-Replace.field-0-is)
    c.write_old-old.ensures c.replace_old-header.ensures

pub returns-in-Ok-Insert : goal.returns-in-Ok-Insert
returns-in-Ok-Insert c =
    insert_added c.args.key.now c.args.value.now c.args.out.now c.new-view.ensures c.judge.ensures (c.in-Ok-Insert.is ∙ ap Ok c.in-Ok-Insert.field-0-is)
    c.split_if_full-placed.ensures c.insert_pair-header.ensures
