use Rattle.std.proofs.Common.{◌≡◌, ℕ, ◌<◌, Bool, true, false, List, Some, length, le-ltb, lt-ltb, refl, sym, ap, ◌∙◌, subst, arith}
use Rattle.std.proofs.lemmas.Bool.{true≢false}
use Rattle.std.specs.{Prelude.{nat_lt, not, slice_get}, Option.is_some}
use Rattle.shm_graph.specs.{declared.run.{Account.Account, Start.Start}, Agents.acts, Runs.account_died}
use Rattle.shm_script.specs.{declared.line.Line.Line, Values.Scripted}
use Rattle.shm_agents.specs.{declared.agents.Standing.TheVariants.Dead, Agents.Playing, Cuts.{IsCut, account_cut}}
use Rattle.shm_agents.specs.Turns.{lives_of}
use Rattle.shm_agents.proofs.{Dying.settles, agents.Agents.cut.Given.Over}
use Rattle.shm_agents.proofs.agents.Agents.cut.Goals.{After-has_begun-acts, then-acts, else-acts, then-is_none, else-is_none, then-acts-2, else-acts-2}
use Rattle.shm_agents.proofs.Cutting as cutting
use Rattle.shm_agents.proofs.agents.Agents.cut.Goals as goal

later_by : (r : Bool) (n : ℕ) → r ≡ nat_lt 0 n → 0 < n → r ≡ true
later_by r n is some = is ∙ lt-ltb 0 n some

first_by : (r : Bool) (n : ℕ) → r ≡ nat_lt 0 n → n ≡ 0 → r ≡ false
first_by r n is none = is ∙ le-ltb 0 n (omega arith)

module _ (g : Over) (c : After-has_begun-acts g) where
  abbrev x : Playing
  x = c.args.self.now

  abbrev s : Scripted
  s = c.args.script.now

  abbrev start : Start
  start = g.W.Workplace.start c.args.pool.now

  abbrev e : Account
  e = g.W.Workplace.account c.args.pool.now c.args.self.now.me.who

  lives : c.as_slice.result.now ≡ s.life
  lives = c.as_slice.ensures.value ∙ ap (λ (z : Scripted). z.life) c.script.view_is

  -- an agent acts where it has begun
  begins : acts e.memo ≡ c.has_begun-acts.result
  begins =
      cutting.acts_is start s x e c.requires.stands c.requires.here c.has_begun-acts.result
      (λ is. let z = c.has_begun-acts.ensures.some is in (z.0, subst (λ (ls : List ℕ). slice_get (lives_of ls) x.agent ≡ Some z.0) lives z.1, z.2))
      (λ is n at. c.has_begun-acts.ensures.none is n (subst (λ (ls : List ℕ). slice_get (lives_of ls) x.agent ≡ Some n) (sym lives) at))

pub fall-requires-clause-acts : goal.fall-requires-clause-acts
fall-requires-clause-acts g c =
    let at = (goal.at.fall-requires-clause-acts g c).After-has_begun-acts in
    subst (λ (z : Playing). acts (g.W.Workplace.account c.args.pool.now z.me.who).memo ≡ true) (sym c.self.view_is) (begins g at ∙ c.if-acts.true)

pub settle-requires-clause-command : goal.settle-requires-clause-command
settle-requires-clause-command g c shown =
    let at = (goal.at.settle-requires-clause-command g c).After-has_begun-acts in
    let none = cutting.none_by c.args.self.now.end (ap (λ (z : Playing). is_some z.end) (sym c.self.view_is) ∙ (c.is_none.ensures ∙ ap not c.if-is_none.true)) in
    subst (λ (ls : List Line). length c.args.self.now.entries < length ls) (sym (c.as_slice-then-is_none.ensures.value ∙ ap (λ (z : Scripted). z.lines) c.script.view_is))
    (cutting.below (start g at) (s g at) (x g at) (e g at) c.requires.stands c.requires.here none shown)

pub returns-clause-account : goal.returns-clause-account
returns-clause-account g c =
    let at = (goal.at.returns-clause-account g c).After-has_begun-acts in
    elim c.if-acts.branch [
      | then-acts w ↦
          let to = subst (λ (k : ℕ). g.W.Workplace.account w.fall.new.self k ≡ account_died (g.W.Workplace.account c.args.pool.now k)) (ap (λ (z : Playing). z.me.who) c.self.view_is) w.fall.ensures.account in
          ap (λ p. g.W.Workplace.account p c.args.self.now.me.who) w.pool-is ∙ (to ∙ sym (cutting.cut_here (start g at) (s g at) (x g at) (e g at) c.requires.stands c.requires.here (begins g at ∙ w.if-acts.true)))
      | else-acts w ↦ ap (λ p. g.W.Workplace.account p c.args.self.now.me.who) w.pool-is ∙ sym (cutting.cut_still (start g at) (s g at) (x g at) (e g at) c.requires.stands c.requires.here (begins g at ∙ w.if-acts.false))
    ]

pub returns-clause-still : goal.returns-clause-still
returns-clause-still g c quiet =
    let at = (goal.at.returns-clause-still g c).After-has_begun-acts in
    elim c.if-acts.branch [
      | then-acts w ↦ absurd (true≢false (sym w.if-acts.true ∙ (sym (begins g at) ∙ quiet)))
      | else-acts w ↦ w.pool-is
    ]

pub returns-clause-same : goal.returns-clause-same
returns-clause-same g c =
    let at = (goal.at.returns-clause-same g c).After-has_begun-acts in
    let y = c.if-is_none.self in
    let ending : is_some c.args.self.now.end ≡ not c.is_none.result = ap (λ (z : Playing). is_some z.end) (sym c.self.view_is) ∙ c.is_none.ensures in
    let noted : cutting.Noted (start g at) (s g at) (x g at) (e g at) c.requires.stands c.requires.here y =
    cutting.noted_by (start g at) (s g at) (x g at) (e g at) c.requires.stands c.requires.here c.is_none.result y ending
    (λ is. elim c.if-is_none.branch [
      | then-is_none w ↦
          let lines : w.as_slice-then-is_none.result.now ≡ c.args.script.now.lines = w.as_slice-then-is_none.ensures.value ∙ ap (λ (z : Scripted). z.lines) c.script.view_is in
          let none = cutting.none_by c.args.self.now.end (ending ∙ ap not is) in
          w.self-is ∙ w.settle.ensures (cutting.line (start g at) (s g at) (x g at) (e g at) c.requires.stands c.requires.here) (λ shown. ap (λ (ls : List Line). slice_get ls (length c.args.self.now.entries)) lines ∙ cutting.line_at (start g at) (s g at) (x g at) (e g at) c.requires.stands c.requires.here none shown)
      | else-is_none w ↦ absurd (true≢false (sym is ∙ w.if-is_none.false))
    ])
    (λ is. elim c.if-is_none.branch [
      | then-is_none w ↦ absurd (true≢false (sym w.if-is_none.true ∙ is))
      | else-is_none w ↦ w.self-is
    ]) in
    let same = cutting.noted_same (start g at) (s g at) (x g at) (e g at) c.requires.stands c.requires.here y noted in
    (ap (λ (z : Playing). z.me) c.self-2.view_is ∙ same.0, ap (λ (z : Playing). z.script) c.self-2.view_is ∙ same.1, refl)

pub returns-clause-cut : goal.returns-clause-cut
returns-clause-cut g c =
    let at = (goal.at.returns-clause-cut g c).After-has_begun-acts in
    let y = c.if-is_none.self in
    let ending : is_some c.args.self.now.end ≡ not c.is_none.result = ap (λ (z : Playing). is_some z.end) (sym c.self.view_is) ∙ c.is_none.ensures in
    let noted : cutting.Noted (start g at) (s g at) (x g at) (e g at) c.requires.stands c.requires.here y =
    cutting.noted_by (start g at) (s g at) (x g at) (e g at) c.requires.stands c.requires.here c.is_none.result y ending
    (λ is. elim c.if-is_none.branch [
      | then-is_none w ↦
          let lines : w.as_slice-then-is_none.result.now ≡ c.args.script.now.lines = w.as_slice-then-is_none.ensures.value ∙ ap (λ (z : Scripted). z.lines) c.script.view_is in
          let none = cutting.none_by c.args.self.now.end (ending ∙ ap not is) in
          w.self-is ∙ w.settle.ensures (cutting.line (start g at) (s g at) (x g at) (e g at) c.requires.stands c.requires.here) (λ shown. ap (λ (ls : List Line). slice_get ls (length c.args.self.now.entries)) lines ∙ cutting.line_at (start g at) (s g at) (x g at) (e g at) c.requires.stands c.requires.here none shown)
      | else-is_none w ↦ absurd (true≢false (sym is ∙ w.if-is_none.false))
    ])
    (λ is. elim c.if-is_none.branch [
      | then-is_none w ↦ absurd (true≢false (sym w.if-is_none.true ∙ is))
      | else-is_none w ↦ w.self-is
    ]) in
    let same = cutting.noted_same (start g at) (s g at) (x g at) (e g at) c.requires.stands c.requires.here y noted in
    let number : c.self-2.inside.agent ≡ c.args.self.now.agent = ap (λ (z : Playing). z.agent) c.self-2.view_is ∙ same.2 in
    let acting : acts (e g at).memo ≡ true → c.if-acts-2.result ≡ true = λ here. elim c.if-acts-2.branch [
      | then-acts-2 w ↦ w.result-is ∙ w.if-acts-2.true
      | else-acts-2 w ↦ absurd (true≢false (sym here ∙ (begins g at ∙ w.if-acts-2.false)))
    ] in
    let later : 0 < c.args.self.now.agent → c.if-acts-2.result ≡ true = λ some. elim c.if-acts-2.branch [
      | then-acts-2 w ↦ w.result-is ∙ w.if-acts-2.true
      | else-acts-2 w ↦ later_by c.if-acts-2.result c.self-2.inside.agent w.result-is (subst (λ (n : ℕ). 0 < n) (sym number) some)
    ] in
    let first : acts (e g at).memo ≡ false → c.args.self.now.agent ≡ 0 → c.if-acts-2.result ≡ false = λ quiet none. elim c.if-acts-2.branch [
      | then-acts-2 w ↦ absurd (true≢false (sym w.if-acts-2.true ∙ (sym (begins g at) ∙ quiet)))
      | else-acts-2 w ↦ first_by c.if-acts-2.result c.self-2.inside.agent w.result-is (number ∙ none)
    ] in
    let off = cutting.cut_off (start g at) (s g at) (x g at) (e g at) c.requires.stands c.requires.here (g.met.W.Workplace.stood c.args.pool.now c.args.self.now.me.who c.requires.has) c.command_maps.ensures.runs c.if-acts-2.result acting later first y noted in
    let account : g.W.Workplace.account c.if-acts.pool c.args.self.now.me.who ≡ account_cut (e g at) = elim c.if-acts.branch [
      | then-acts w ↦
          let to = subst (λ (k : ℕ). g.W.Workplace.account w.fall.new.self k ≡ account_died (g.W.Workplace.account c.args.pool.now k)) (ap (λ (z : Playing). z.me.who) c.self.view_is) w.fall.ensures.account in
          ap (λ p. g.W.Workplace.account p c.args.self.now.me.who) w.pool-is ∙ (to ∙ sym (cutting.cut_here (start g at) (s g at) (x g at) (e g at) c.requires.stands c.requires.here (begins g at ∙ w.if-acts.true)))
      | else-acts w ↦ ap (λ p. g.W.Workplace.account p c.args.self.now.me.who) w.pool-is ∙ sym (cutting.cut_still (start g at) (s g at) (x g at) (e g at) c.requires.stands c.requires.here (begins g at ∙ w.if-acts.false))
    ] in
    subst (λ (z : Playing). IsCut c.if-acts-2.result c.args.script.now (record z { standing = Dead }) (g.W.Workplace.account c.if-acts.pool c.args.self.now.me.who)) (sym c.self-2.view_is)
    (subst (IsCut c.if-acts-2.result c.args.script.now (record y { standing = Dead })) (sym account) off)
