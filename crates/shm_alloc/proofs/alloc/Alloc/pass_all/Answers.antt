use Rattle.std.proofs.Common.{ℕ, ◌+◌, ◌-◌, arith, refl, sym, ap, subst, ◌∙◌}
use Rattle.shm_words.proofs.Placing.{total_most_wide}
use Rattle.shm_alloc.specs.{declared.point.AllocPoint.TheVariants.Header, Alloc.Control.PointFits}
use Rattle.shm_alloc.specs.Proved.BlockPlaces.{block_of_within}
use Rattle.shm_alloc.proofs.Passed.{at_first, behind, may_read, one_found, one_passed, passed_so}
use Rattle.shm_alloc.proofs.alloc.Alloc.pass_all.Goals as goal

pub headers-init : goal.headers-init
headers-init g c =
    let s = c.args.site.now in
    let f = c.self.inside in
    let h = c.in-Header in
    record {
      range = c.self.invariant.0;
      class = c.self.invariant.1.class;
      point = h.is;
      same = c.from-class.ensures ∙ c.self.invariant.1.class;
      life = refl;
      most = omega arith;
      hand = omega arith;
      passed = omega arith;
      behind = at_first f.state h.goal h.search h.page h.index (g.S.Site.may s) (g.S.Site.made s) (g.S.Site.seen s) c.args.life.now.left c.args.self.now c.args.words.now f.left f.header c.self.view_is h.is c.self.invariant.1.header c.requires;
    }

pub make-seen-requires : goal.make-seen-requires
make-seen-requires g c =
    let s = c.args.site.now in
    let h = c.in-Header in
    let l = c.headers in
    let f = l.self-inside in
    let more = c.headers-test.true in
    let most = l.invariant.most in
    may_read f.state h.goal h.search h.page h.index (g.S.Site.may s) (g.S.Site.made s) (g.S.Site.seen s) c.args.life.now.left c.args.self.now c.args.words.now f.left l.at l.passed l.words l.invariant.behind (omega arith)

pub headers-preserved : goal.headers-preserved
headers-preserved g c =
    let s = c.args.site.now in
    let h = c.in-Header in
    let l = c.headers in
    let f = l.self-inside in
    let more = c.headers-test.true in
    let most = l.invariant.most in
    let hand = l.invariant.hand in
    record {
      range = l.invariant.range;
      class = l.invariant.class;
      point = l.invariant.point;
      same = l.invariant.same;
      life = l.invariant.life;
      most = most;
      hand = hand;
      passed = omega arith;
      behind = one_passed f.state h.goal h.search h.page h.index (g.S.Site.may s) (g.S.Site.made s) (g.S.Site.seen s) c.args.life.now.left c.args.self.now c.args.words.now f.left l.at l.passed l.words l.invariant.behind (omega arith)
          c.make-seen.new.words c.make-seen.ensures.made (omega arith) c.from-class.result l.invariant.same (λ e. c.if-seen-eq0.false (c.make-seen.ensures.seen ∙ e));
    }

pub overflow_add-at : goal.overflow_add-at
overflow_add-at g c =
    let h = c.in-Header in
    let l = c.headers in
    let f = l.self-inside in
    let me = f.state.me in
    let q = f.state.request in
    let k = subst (PointFits me q) l.invariant.point l.invariant.range.point in
    let a = l.invariant.behind.header.0 in
    let room = l.invariant.behind.header.1 in
    let hand = l.invariant.hand in
    let more = c.headers-test.true in
    let b = (block_of_within me q h.search h.page (h.index + l.passed) k.1.segment k.2 (omega arith)).0 in
    let t = total_most_wide me.geometry l.invariant.range.geometry in
    let e = l.invariant.same in
    omega arith

pub returns-then-seen-eq0-clause-passed : goal.returns-then-seen-eq0-clause-passed
returns-then-seen-eq0-clause-passed g c =
    let s = c.args.site.now in
    let h = c.in-Header in
    let l = c.headers in
    let f = l.self-inside in
    let more = c.headers-test.true in
    let most = l.invariant.most in
    let same = l.invariant.life in
    let few = c.from-then-seen-eq0.ensures in
    let r = one_found f.state h.goal h.search h.page h.index (g.S.Site.may s) (g.S.Site.made s) (g.S.Site.seen s) c.args.life.now.left c.args.self.now c.args.words.now f.left l.at l.passed l.words l.invariant.behind (omega arith)
    c.make-seen.new.words c.make-seen.ensures.made (sym c.make-seen.ensures.seen ∙ c.if-seen-eq0.true) in
    passed_so (g.S.Site.may s) (g.S.Site.made s) (g.S.Site.seen s) c.args.life.now.left c.args.self.now c.args.words.now (c.args.life.now.left - (l.passed + 1)) _ c.make-seen.new.words r (l.life.left - (c.from-then-seen-eq0.result + 1)) _ (omega arith) refl

pub returns-then-seen-eq0-clause-life : goal.returns-then-seen-eq0-clause-life
returns-then-seen-eq0-clause-life g c = let same = c.headers.invariant.life in omega arith

pub returns-clause-passed : goal.returns-clause-passed
returns-clause-passed g c =
    let s = c.args.site.now in
    let h = c.in-Header in
    let l = c.headers in
    let f = l.self-inside in
    let same = l.invariant.life in
    let few = c.from-2.ensures in
    passed_so (g.S.Site.may s) (g.S.Site.made s) (g.S.Site.seen s) c.args.life.now.left c.args.self.now c.args.words.now (c.args.life.now.left - l.passed) (behind f.state h.goal h.search h.page h.index l.passed) l.words l.invariant.behind.run
    (l.life.left - c.from-2.result) _ (omega arith)
    (ap (λ (u : ℕ). record f.state { point = Header h.goal (record h.search { used = h.search.used + u }) h.page (h.index + l.passed) }) (sym c.from-3.ensures))

pub returns-clause-life : goal.returns-clause-life
returns-clause-life g c = let same = c.headers.invariant.life in omega arith

pub invariant_of-self : goal.invariant_of-self
invariant_of-self g c =
    let h = c.in-Header in
    let l = c.headers in
    let f = l.self-inside in
    let me = f.state.me in
    let q = f.state.request in
    let k = subst (PointFits me q) l.invariant.point l.invariant.range.point in
    let at = l.invariant.behind.header.0 in
    let room = l.invariant.behind.header.1 in
    let b = block_of_within me q h.search h.page (h.index + l.passed) k.1.segment k.2 (omega arith) in
    let end = b.0 in
    let begins = b.1 in (
      record { geometry = l.invariant.range.geometry; who = l.invariant.range.who; request = l.invariant.range.request; point = (k.0, omega arith, omega arith) },
      record { class = l.invariant.class; header = tt },
    )

pub invariant_of-self-2 : goal.invariant_of-self-2
invariant_of-self-2 g c =
    let h = c.in-Header in
    let l = c.headers in
    let f = l.self-inside in
    let me = f.state.me in
    let q = f.state.request in
    let k = subst (PointFits me q) l.invariant.point l.invariant.range.point in
    let room = l.invariant.behind.header.1 in
    let few = c.from-3.ensures in
    let u = k.1.used in (
      record {
        geometry = l.invariant.range.geometry;
        who = l.invariant.range.who;
        request = l.invariant.range.request;
        point = (k.0, record { segment = k.1.segment; taken = k.1.taken; used = omega arith }, k.2, omega arith);
      },
      record { class = l.invariant.class; header = l.invariant.behind.header },
    )

pub overflow_sub-life-2 : goal.overflow_sub-life-2
overflow_sub-life-2 g c =
    let l = c.headers.invariant in
    let few = c.from-2.ensures in
    let same = l.life in
    let most = l.most in
    let passed = l.passed in
    omega arith

pub overflow_sub-self : goal.overflow_sub-self
overflow_sub-self g c =
    let l = c.headers.invariant in
    let hand = l.hand in
    let passed = l.passed in
    omega arith
