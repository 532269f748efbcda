use Rattle.std.proofs.Common.{inl, inr, Err, refl, sym, ap, ◌∙◌}
use Rattle.bcj_cli_telling.specs.Faults.{counts}
use Rattle.bcj_cli_shown.proofs.Asked.{asked, for_file}
use Rattle.bcj_cli_shown.proofs.Outcomes.{unread, unshown, said_in_part}
use Rattle.bcj_cli_shown.proofs.command.show_command.Goals as goal

pub returns-in-Err-clause-unread : goal.returns-in-Err-clause-unread
returns-in-Err-clause-unread g c =
    for_file c.args.words.now c.in-Some.file.now _ (asked c.args.words.now c.in-Some.file.now c.requires c.in-Some.ensures.value)
    (λ is. elim c.refuse_read.ensures.status [
      | inl e ↦ unread (g.F.Files.held c.args.files.now) c.in-Some.file.now
          (counts (g.F.Files.read_faults c.args.files.now) (g.F.Files.absents c.args.files.now) (g.F.Files.overs c.args.files.now))
          (counts (g.F.Files.read_faults c.read.new.self) (g.F.Files.absents c.read.new.self) (g.F.Files.overs c.read.new.self))
          (g.E.Sink.taken c.args.err.now) (g.E.Sink.taken c.refuse_read.new.err) c.in-Err.stop
          (λ w. c.in-Err.ensures.failed (ap (λ s. Err s) w)) (λ w. c.in-Err.ensures.too_long (ap (λ s. Err s) w)) (λ w. c.in-Err.ensures.absent (ap (λ s. Err s) w)) (sym e ∙ is)
          (c.refuse_read.ensures.told (λ w. cc))
      | inr w ↦ absurd cc
    ])

pub returns-in-Err-text_of-clause-unshown : goal.returns-in-Err-text_of-clause-unshown
returns-in-Err-text_of-clause-unshown g c =
    for_file c.args.words.now c.in-Some.file.now _ (asked c.args.words.now c.in-Some.file.now c.requires c.in-Some.ensures.value)
    (λ is. unshown (g.F.Files.held c.args.files.now) c.in-Some.file.now c.in-Ok.object _ _ (record { has = c.in-Ok.ensures.ok.1; short = c.in-Ok.ensures.ok.0 })
    (c.refuse_object.ensures.told c.in-Ok.object c.in-Err-text_of.ensures.err is))

pub returns-in-Err-text_of-clause-fault : goal.returns-in-Err-text_of-clause-fault
returns-in-Err-text_of-clause-fault g c =
    for_file c.args.words.now c.in-Some.file.now _ (asked c.args.words.now c.in-Some.file.now c.requires c.in-Some.ensures.value)
    (λ is. inr (
      c.refuse_object.ensures.fault is,
      refl,
      said_in_part (g.F.Files.held c.args.files.now) c.in-Some.file.now c.in-Ok.object _ _ (record { has = c.in-Ok.ensures.ok.1; short = c.in-Ok.ensures.ok.0 })
          (c.refuse_object.ensures.part c.in-Ok.object c.in-Err-text_of.ensures.err),
    ))
