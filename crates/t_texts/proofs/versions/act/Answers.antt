use Rattle.t_texts.proofs.versions.act.Goals as goal

pub go-requires : goal.go-requires
go-requires c = (c.scripts_are_spelled.ensures.read _ _ c.in-Ok.ensures).0

pub lives-requires : goal.lives-requires
lives-requires c = (c.scripts_are_spelled.ensures.read _ _ c.in-Ok.ensures).0

pub audit_row-requires : goal.audit_row-requires
audit_row-requires c = (c.scripts_are_spelled.ensures.read _ _ c.in-Ok.ensures).0
