use Rattle.std.proofs.Common.{[], ◌∙◌, ap, subst, sym}
use Rattle.std.proofs.KnownBytes.{Appends-nil}
use Rattle.std.specs.Io.KnownBytes.{Appends}
use Rattle.cc_syntax.specs.Hints.{hints_text}
use Rattle.cc_syntax.specs.Statistics.{statistics_text}
use Rattle.cli_program.proofs.ReportLemmas.{asked_statistics, given_hints, no_hints, no_statistics, of_answer, of_answered, tells}
use Rattle.cli_program.proofs.report.write_report.Goals as goal
use Rattle.cli_program.proofs.report.write_report.Goals.{then-report+in_ok-usage+else-is_err, else-report}

pub returns-then-report-2-clause-written : goal.returns-then-report-2-clause-written
returns-then-report-2-clause-written g c not_failed opening exchanges counts =
    let hints = ap hints_text (c.of.ensures opening exchanges counts) ∙ given_hints c.args.report.hints opening exchanges c.args.pool c.if-report-2.true in
    let written = of_answer _ _ _ c.show_hints.ensures.sends.fails not_failed c.show_hints.ensures.sends.ok in
    elim c.if-report.branch [
      | then-report+in_ok-usage+else-is_err w ↦
          tells _ _ _ _ _ _ _ _ _ _
          (asked_statistics _ _ _ w.if-report.true w.in_ok-usage.ensures.usage) hints
          (subst (λ errors. Appends (g.E.Sink.state c.args.errors.now).taken (g.E.Sink.state errors).taken (statistics_text w.in_ok-usage.usage c.args.session.now.tally)) (sym w.errors-is)
          (of_answered _ _ (sym w.is_err.ensures.value ∙ w.if-is_err.false) w.show_statistics.ensures.sends.ok)) written
      | else-report w ↦
          tells _ _ _ _ _ _ _ _ _ _ (no_statistics _ _ w.if-report.false) hints
          (subst (λ errors. Appends (g.E.Sink.state c.args.errors.now).taken (g.E.Sink.state errors).taken []) (sym w.errors-is) (Appends-nil _)) written
    ]

pub returns-else-report-2-clause-written : goal.returns-else-report-2-clause-written
returns-else-report-2-clause-written g c not_failed opening exchanges counts =
    let hints = no_hints c.args.report.hints opening exchanges c.args.pool c.if-report-2.false in
    elim c.if-report.branch [
      | then-report+in_ok-usage+else-is_err w ↦
          tells _ _ _ _ _ _ _ _ _ _
          (asked_statistics _ _ _ w.if-report.true w.in_ok-usage.ensures.usage) hints
          (subst (λ errors. Appends (g.E.Sink.state c.args.errors.now).taken (g.E.Sink.state errors).taken (statistics_text w.in_ok-usage.usage c.args.session.now.tally)) (sym w.errors-is)
          (of_answered _ _ (sym w.is_err.ensures.value ∙ w.if-is_err.false) w.show_statistics.ensures.sends.ok)) (Appends-nil _)
      | else-report w ↦
          tells _ _ _ _ _ _ _ _ _ _ (no_statistics _ _ w.if-report.false) hints
          (subst (λ errors. Appends (g.E.Sink.state c.args.errors.now).taken (g.E.Sink.state errors).taken []) (sym w.errors-is) (Appends-nil _)) (Appends-nil _)
    ]
