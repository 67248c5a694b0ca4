use Rattle.std.proofs.Common.{◌≡◌, ap, subst, ◌∙◌, sym, length, arith, vec_capacity}
use Rattle.shm_agents.specs.{Agents.{Playing, behind}, Work.Work}
use Rattle.shm_agents.proofs.{WorkLaws.{behind_at, behind_past}, agents.Agents.begin.Given.Over}
use Rattle.shm_agents.proofs.agents.Agents.begin.Goals.{After-drop-self-inside, then-answered-lines, else-answered-lines}
use Rattle.shm_agents.proofs.agents.Agents.begin.Goals as goal

-- the work is what comes behind the commands that have answered
placed : (g : Over) (c : After-drop-self-inside g) → c.if-answered-lines.next ≡ behind c.self.inside.me c.args.lines.now c.len-answered.result
placed g c =
    elim c.if-answered-lines.branch [
      | then-answered-lines w ↦ w.next-is ∙ (w.commanding-next.ensures ∙ sym (behind_at c.self.inside.me c.args.lines.now c.len-answered.result _ w.if-answered-lines.true))
      | else-answered-lines w ↦ w.next-is ∙ (w.leaving-next.ensures ∙ sym (behind_past c.self.inside.me c.args.lines.now c.len-answered.result (let o = w.if-answered-lines.false in omega arith)))
    ]

pub returns : goal.returns
returns g c =
    let a = c.self.inside in
    subst (λ (z : Playing). record { me = a.me; script = a.script; agent = a.agent; work = c.if-answered-lines.next; life = a.life; entries = a.entries.items; room = vec_capacity a.entries; end = a.end; standing = a.standing } ≡ record z { work = behind z.me c.args.lines.now (length z.entries) }) c.self.view_is
    (ap (λ (w : Work). record { me = a.me; script = a.script; agent = a.agent; work = w; life = a.life; entries = a.entries.items; room = vec_capacity a.entries; end = a.end; standing = a.standing }) (placed g c ∙ ap (behind a.me c.args.lines.now) (c.len-answered.ensures ∙ a.entries.ok.0)))
