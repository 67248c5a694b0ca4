use Rattle.std.proofs.Common.{◌≡◌, ◌++◌, append-nil, sym, ◌∙◌, subst}
use Rattle.std.specs.Prelude.{Option, Some, None}
use Rattle.shm_watch.specs.declared.span.Span.{Span}
use Rattle.shm_watch.specs.Columns.{Coursed, first_course, span_in, told_by}
use Rattle.shm_watch.proofs.Following.{followed, told_next}
use Rattle.shm_watch.proofs.telling.TellingWatcher.see.Goals as goal

pub returns-in-Some : goal.returns-in-Some
returns-in-Some g c before h =
    let f : Coursed = first_course g.T.Of.trace in
    let x : Coursed = c.args.self.now.course in
    let is : ◌≡◌ {A = Option Span} (Some c.in-Some.span) (span_in x c.args.shown) = sym c.in-Some.is ∙ c.turn.ensures.span in (
      followed f x c.turn.new.self before c.args.shown h.0 c.turn.ensures.course,
      subst (g.L.Listener.told c.tell.new.self) (sym (told_next f x before c.args.shown (Some c.in-Some.span) h.0 is)) (c.tell.ensures (told_by f before) h.1),
    )

pub returns-in-None : goal.returns-in-None
returns-in-None g c before h =
    let f : Coursed = first_course g.T.Of.trace in
    let x : Coursed = c.args.self.now.course in
    let is : ◌≡◌ {A = Option Span} None (span_in x c.args.shown) = sym c.in-None.is ∙ c.turn.ensures.span in (
      followed f x c.turn.new.self before c.args.shown h.0 c.turn.ensures.course,
      subst (g.L.Listener.told c.args.self.now.listener) (sym (told_next f x before c.args.shown None h.0 is ∙ append-nil (told_by f before))) h.1,
    )
