use Rattle.std.proofs.Common.{◌∙◌}
use Rattle.bcj_layout.proofs.InstanceLemmas.{row-of-type}
use Rattle.bcj_layout.proofs.layout.Layout.row.Goals as goal

pub returns-clause-of_type : goal.returns-clause-of_type
returns-clause-of_type c = c.address.ensures ∙ row-of-type c.args.self.now.classes c.args.self.now.main c.args.r c.requires
