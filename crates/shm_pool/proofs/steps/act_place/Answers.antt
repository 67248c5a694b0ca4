use Rattle.std.proofs.Common.{◌≡◌, ℕ, List, [], ◌∷◌, ◌<◌, refl, sym, ap, ◌∙◌, subst}
use Rattle.atomic_table.specs.Table.{Me as Mine}
use Rattle.shm_words.specs.{declared.geometry.Geometry.Geometry, Layout.total_of}
use Rattle.shm_graph.specs.{declared.{ask.{Me.Me, Ask.Ask}, run.Account.Account}, Asks.{at_of, seen_of}, Laws.step_of}
use Rattle.shm_graph.specs.Whole.{fits_now, gives_now}
use Rattle.shm_graph.proofs.Machines.Wholes.{whole_keeps, whole_inside}
use Rattle.shm_pool.specs.{Rules.{AccountTold, alone, head_account}, Sites.{told_of, last_word}}
use Rattle.shm_pool.proofs.{Sites.{given_after, told_seen}, Stepping.allowed}
use Rattle.shm_pool.proofs.steps.act_place.Goals as goal

pub act_as-requires-clause-may : goal.act_as-requires-clause-may
act_as-requires-clause-may g c =
    let M = g.M.Machine in let m = c.args.m.now in let e = alone c.args.place.now in let s = c.args.top.now.key in
    let a : Ask = M.control.asks m in
    let says : List Account → ℕ → List Account → Type 0 = λ before n now. (now ≡ head_account now ∷ []) × AccountTold M.control (fits_now M.control M.fits) (gives_now M.gives) s m (head_account before) (seen_of a n) (head_account now) in
    let geo : Geometry = s.geometry in
    let lt : e.who < geo.clients = c.requires.me.1 in
    let h = whole_inside M.control M.fits M.gives g.met.M.Machine.laws m c.requires.fits.0 e.memo (subst (λ (z : Me). z.who < z.geometry.clients) (sym c.requires.me.0) lt) c.requires.fits.1 c.requires.me.2 in
    record {
      table = c.requires.table.0;
      here = subst (λ (z : ℕ). at_of a < z) (sym c.requires.table.1) (subst (λ (z : Me). at_of a < total_of z.geometry) c.requires.me.0 h);
      spare = ap (λ (y : Mine (Unit {0}) (List Account)). y.1) c.requires.table.2;
      allowed = allowed M.control (fits_now M.control M.fits) (gives_now M.gives) (whole_keeps M.control M.fits M.gives g.met.M.Machine.laws) s _ _ m e _ c.requires.table.2 c.requires.me c.requires.fits.0 c.requires.fits.1 (told_of a) (told_seen a) says (λ n learns stood made. (refl, (refl, learns, stood, made))) a refl;
      given = λ n now said. given_after e (step_of M.control m (seen_of a (told_of a n))) now said.1.0 ∙ told_seen a n;
    }

pub returns-clause-told : goal.returns-clause-told
returns-clause-told g c =
    let M = g.M.Machine in let m = c.args.m.now in let e = alone c.args.place.now in let s = c.args.top.now.key in
    let said = c.act_as.ensures.made.told in
    let n : ℕ = seen_of (M.control.asks m) said.0 in
    let is : last_word c.act_as.new.place ≡ n = given_after e (step_of M.control m n) c.act_as.new.place.me.0 said.1.1.0 in
    subst (λ (z : ℕ). AccountTold M.control (fits_now M.control M.fits) (gives_now M.gives) s m e z (alone c.act_as.new.place)) (sym is) said.1.1
