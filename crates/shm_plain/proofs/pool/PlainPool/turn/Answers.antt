use Rattle.std.proofs.Common.{◌≡◌, ℕ, List, sym, ap, ◌∙◌, subst}
use Rattle.shm_graph.specs.{declared.{ask.Me.Me, memo.Memo.Memo}, Asks.words_set, Whole.{fits_now, gives_now, Learns}}
use Rattle.shm_graph.proofs.Machines.Wholes.{whole_keeps}
use Rattle.shm_plain.specs.declared.track.Track.{Track}
use Rattle.shm_plain.specs.Pools.{Pool, pool, memo_of, IsRun, IsOf, MayStep, readied, turn_on, turned}
use Rattle.shm_plain.specs.Tracks.{noted_at}
use Rattle.shm_plain.proofs.{Turning.{ready_run, turned_run, learned}, pool.PlainPool.turn.Given.Over}
use Rattle.shm_plain.proofs.pool.PlainPool.turn.Goals.{After-act}
use Rattle.shm_plain.proofs.pool.PlainPool.turn.Goals as goal

ran : (g : Over) (c : After-act g) → IsRun (pool c.self.inside.start c.act.new.words.items c.note.new.place.me.0.accounts c.note.new.place.me.0.turns)
ran g c = let f = c.self.inside in let p0 : Pool = pool f.start f.words.items f.place.me.0.accounts f.place.me.0.turns in let m = c.args.m.now in let M = g.M.Machine in let L = g.met.M.Machine.laws in let who : ℕ = c.args.who in
    let is : p0 ≡ c.args.self.now = c.self.view_is in
    let of : IsOf p0 who M.control m = subst (λ (z : Pool). IsOf z who M.control m) (sym is) c.requires.me in
    let may : MayStep p0 who = subst (λ (z : Pool). MayStep z who) (sym is) c.requires.agent in
    let ready = ready_run p0 who c.self.invariant.3 of.1 may in let p : Pool = readied p0 who in
    let r0 : Memo = c.requires.fits.0 in let fit : fits_now M.control M.fits m r0 (memo_of p who) = subst (λ (z : Pool). fits_now M.control M.fits m r0 (memo_of (readied z who) who)) (sym is) c.requires.fits.1 in
    let run = turned_run M.control (fits_now M.control M.fits) (gives_now M.gives) (whole_keeps M.control M.fits M.gives L) p who m r0 ready.0 ready.1 of fit in
    let t = turn_on p M.control m in
    let words : c.act.new.words.items ≡ words_set (M.control.asks m) p0.words = c.act.ensures.made in
    let track : c.note.new.place.me.0 ≡ noted_at who t f.place.me.0 = c.note.ensures.1 ∙ ap (λ (z : Me). noted_at z.who t f.place.me.0) of.0 in
    subst (λ (z : Track). IsRun (pool f.start c.act.new.words.items z.accounts z.turns)) (sym track) (subst (λ (ws : List ℕ). IsRun (pool f.start ws (noted_at who t f.place.me.0).accounts (noted_at who t f.place.me.0).turns)) (sym words) run)

pub invariant_of-self : goal.invariant_of-self
invariant_of-self g c = (c.note.ensures.2 ∙ c.self.invariant.0, c.note.ensures.0 ∙ c.self.invariant.1, c.self.invariant.2, ran g c)

pub returns-clause-run : goal.returns-clause-run
returns-clause-run g c = ran g c

pub returns-clause-learns : goal.returns-clause-learns
returns-clause-learns g c = let f = c.self.inside in let p0 : Pool = pool f.start f.words.items f.place.me.0.accounts f.place.me.0.turns in let m = c.args.m.now in let M = g.M.Machine in let L = g.met.M.Machine.laws in let who : ℕ = c.args.who in
    let is : p0 ≡ c.args.self.now = c.self.view_is in
    let of : IsOf p0 who M.control m = subst (λ (z : Pool). IsOf z who M.control m) (sym is) c.requires.me in
    let may : MayStep p0 who = subst (λ (z : Pool). MayStep z who) (sym is) c.requires.agent in
    let ready = ready_run p0 who c.self.invariant.3 of.1 may in let p : Pool = readied p0 who in let t = turn_on p M.control m in
    let learns = learned M.control (fits_now M.control M.fits) (gives_now M.gives) (whole_keeps M.control M.fits M.gives L) p who m ready.0 of in
    let track : c.note.new.place.me.0 ≡ noted_at who t f.place.me.0 = c.note.ensures.1 ∙ ap (λ (z : Me). noted_at z.who t f.place.me.0) of.0 in
    let after : memo_of (turned p t) who ≡ memo_of (pool f.start c.act.new.words.items c.note.new.place.me.0.accounts c.note.new.place.me.0.turns) who = λ i. memo_of (pool f.start (turned p t).words (sym track i).accounts (sym track i).turns) who in
    subst (λ (z : Pool). Learns M.control (fits_now M.control M.fits) (gives_now M.gives) m (turn_on (readied z who) M.control m).seen (memo_of (readied z who) who) (memo_of (pool f.start c.act.new.words.items c.note.new.place.me.0.accounts c.note.new.place.me.0.turns) who)) is
    (subst (λ (z : Memo). Learns M.control (fits_now M.control M.fits) (gives_now M.gives) m t.seen (memo_of p who) z) after learns)
