use Rattle.std.proofs.Common.{◌≡◌, ◌<◌, List, [], ◌∷◌, ◌++◌, length, sym, ap, ◌∙◌, subst}
use Rattle.std.proofs.lemmas.Option.{slice_get_within}
use Rattle.std.specs.Prelude.{Some}
use Rattle.shm_words.specs.Layout.{GeometryFits}
use Rattle.plans.specs.declared.or.Or.TheVariants.{First, Second}
use Rattle.shm_script.specs.declared.{line.Line.Line, log.End.TheVariants.Ended}
use Rattle.shm_table.specs.Command.{LineMayStand}
use Rattle.shm_agents.specs.{declared.agents.Standing.TheVariants.Gone, Agents.{Playing, behind}}
use Rattle.shm_agents.specs.{Rows.{HasGoneOn, MayGoOn}, Work.WorkAnswer}
use Rattle.shm_agents.proofs.agents.Agents.go_on.Given.{Over}
use Rattle.shm_agents.proofs.agents.Agents.go_on.Goals.{After-note, In-First-First, In-First-Second, In-Second-First, In-Second-Second}
use Rattle.shm_agents.proofs.agents.Agents.go_on.Goals as goal

-- ---- what was answered

joined : (g : Over) (c : In-First-First g) → c.args.told ≡ First (First c.in-First-First.field-0-0)
joined g c =
    let e : c.args.told ≡ First c.in-First-First.field-0 = c.in-First-First.is in
    let f : c.in-First-First.field-0 ≡ First c.in-First-First.field-0-0 = rw c.in-First-First.is at c.in-First-First.field-0-is in
    e ∙ ap First f

recovered : (g : Over) (c : In-First-Second g) → c.args.told ≡ First (Second c.in-First-Second.recovered)
recovered g c =
    let e : c.args.told ≡ First c.in-First-Second.field-0 = c.in-First-Second.is in
    let f : c.in-First-Second.field-0 ≡ Second c.in-First-Second.recovered = rw c.in-First-Second.is at c.in-First-Second.field-0-is in
    e ∙ ap First f

answered : (g : Over) (c : In-Second-First g) → c.args.told ≡ Second (First c.in-Second-First.answer)
answered g c =
    let e : c.args.told ≡ Second c.in-Second-First.field-0 = c.in-Second-First.is in
    let f : c.in-Second-First.field-0 ≡ First c.in-Second-First.answer = rw c.in-Second-First.is at c.in-Second-First.field-0-is in
    e ∙ ap Second f

parted : (g : Over) (c : In-Second-Second g) → c.args.told ≡ Second (Second c.in-Second-Second.left)
parted g c =
    let e : c.args.told ≡ Second c.in-Second-Second.field-0 = c.in-Second-Second.is in
    let f : c.in-Second-Second.field-0 ≡ Second c.in-Second-Second.left = rw c.in-Second-Second.is at c.in-Second-Second.field-0-is in
    e ∙ ap Second f

-- ---- what the calls need

pub begin-requires-clause-line : goal.begin-requires-clause-line
begin-requires-clause-line g c = c.requires.line (length c.args.self.now.entries)

pub unwrap-requires : goal.unwrap-requires
unwrap-requires g c = subst (λ (v : WorkAnswer). MayGoOn c.args.lines.now v c.args.self.now) (recovered g (goal.at.unwrap-requires g c).In-First-Second) c.requires.told

pub unwrap-requires-in-Second-Second : goal.unwrap-requires-in-Second-Second
unwrap-requires-in-Second-Second g c = subst (λ (v : WorkAnswer). MayGoOn c.args.lines.now v c.args.self.now) (parted g (goal.at.unwrap-requires-in-Second-Second g c).In-Second-Second) c.requires.told

may_note : (g : Over) (c : In-Second-First g) → MayGoOn c.args.lines.now (Second (First c.in-Second-First.answer)) c.args.self.now
may_note g c = subst (λ (v : WorkAnswer). MayGoOn c.args.lines.now v c.args.self.now) (answered g c) c.requires.told

pub note-requires-clause-command : goal.note-requires-clause-command
note-requires-clause-command g c =
    let may = may_note g (goal.at.note-requires-clause-command g c).In-Second-First in
    slice_get_within c.args.lines.now (length c.args.self.now.entries) may.0 may.1

pub note-requires-clause-room : goal.note-requires-clause-room
note-requires-clause-room g c = (may_note g (goal.at.note-requires-clause-room g c).In-Second-First).2

-- the agents with the entry
noted : (g : Over) (c : After-note g) → let x = c.args.self.now in let may = may_note g (goal.at.After-note g c).In-Second-First in ◌≡◌ {A = Playing} c.note.new.self (record x { entries = x.entries ++ record { line = may.0; answer = c.in-Second-First.answer } ∷ [] })
noted g c = let may = may_note g (goal.at.After-note g c).In-Second-First in c.note.ensures may.0 may.1

pub begin-requires-in-Second-First-clause-geometry : goal.begin-requires-in-Second-First-clause-geometry
begin-requires-in-Second-First-clause-geometry g c =
    subst (λ (z : Playing). GeometryFits z.me.geometry) (sym (noted g (goal.at.begin-requires-in-Second-First-clause-geometry g c).After-note)) c.requires.geometry

pub begin-requires-in-Second-First-clause-who : goal.begin-requires-in-Second-First-clause-who
begin-requires-in-Second-First-clause-who g c =
    subst (λ (z : Playing). z.me.who < z.me.geometry.clients) (sym (noted g (goal.at.begin-requires-in-Second-First-clause-who g c).After-note)) c.requires.who

pub begin-requires-in-Second-First-clause-line : goal.begin-requires-in-Second-First-clause-line
begin-requires-in-Second-First-clause-line g c line at =
    subst (λ (z : Playing). LineMayStand z.me line) (sym (noted g (goal.at.begin-requires-in-Second-First-clause-line g c).After-note)) (c.requires.line (length c.note.new.self.entries) line at)

-- ---- what is left

pub returns-in-First-First : goal.returns-in-First-First
returns-in-First-First g c = subst (λ (v : WorkAnswer). HasGoneOn c.args.lines.now v c.args.self.now c.begin.new.self) (sym (joined g (goal.at.returns-in-First-First g c).In-First-First)) c.begin.ensures

-- what holds at what was answered
at_told : (lines : List Line) (x y : Playing) (v w : WorkAnswer) → v ≡ w → HasGoneOn lines w x y → HasGoneOn lines v x y
at_told lines x y v w is h = subst (λ (u : WorkAnswer). HasGoneOn lines u x y) (sym is) h

pub returns-in-First-Second : goal.returns-in-First-Second
returns-in-First-Second g c =
    at_told c.args.lines.now c.args.self.now _ c.args.told (First (Second c.in-First-Second.recovered)) (recovered g (goal.at.returns-in-First-Second g c).In-First-Second)
    (ap (λ (z : Playing). record z { standing = Gone }) c.self.view_is)

pub returns-in-Second-First : goal.returns-in-Second-First
returns-in-Second-First g c =
    let x = c.args.self.now in
    let ls = c.args.lines.now in
    subst (λ (v : WorkAnswer). HasGoneOn ls v x c.begin-in-Second-First.new.self) (sym (answered g (goal.at.returns-in-Second-First g c).In-Second-First))
    (λ line at. c.begin-in-Second-First.ensures ∙ ap (λ (z : Playing). record z { work = behind z.me ls (length z.entries) }) (c.note.ensures line at))

pub returns-in-Second-Second : goal.returns-in-Second-Second
returns-in-Second-Second g c =
    at_told c.args.lines.now c.args.self.now _ c.args.told (Second (Second c.in-Second-Second.left)) (parted g (goal.at.returns-in-Second-Second g c).In-Second-Second)
    (ap (λ (z : Playing). record z { end = Some Ended; standing = Gone }) c.self-in-Second-Second.view_is)
