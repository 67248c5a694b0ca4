-- a reference word that is set: the own latch is taken, the word is set, and the latch is given back
use Rattle.std.proofs.Common.{◌≡◌, ◌≢◌, ℕ, true, false, List, Result, Ok, Err, refl, sym, ap, ◌∙◌, subst}
use Rattle.std.specs.Prelude.{Some, is_ok}
use Rattle.shm_ref.specs.declared.answer.SetFault.{SetFault}
use Rattle.shm_ref.specs.declared.answer.SetFault.TheVariants as set
use Rattle.shm_pool.specs.declared.reply.Reply.TheVariants.{Died, Done}
use Rattle.lojarnek.specs.{Blocks.{Denies, HasCome, HasEnded, KeepsRoots, StandsOn}, Refusing.{is_death, set_error}}
use Rattle.lojarnek.specs.{Roots.{IsAtBlocks, IsHolding, IsNamed, KnowsRoots}, Standing.Acts, Tables.SameClient}
use Rattle.lojarnek.specs.Setting.{HasGiven, HasHeld, HasSet, KnowsReference, WhyNotSet, WhyUnset}
use Rattle.lojarnek.specs.declared.error.Error.{Error}
use Rattle.lojarnek.specs.declared.error.Error.TheVariants as error
use Rattle.lojarnek.proofs.{Comes.{err_came, ok_came, same_then}, Naming.{knows_dead, knows_kept}}

-- ---- from call to call

pub ended_then : (c d e : Acts) → SameClient c d → HasEnded d e → HasEnded c e
ended_then c d e same h = (same_then c d e same h.0, h.1, h.2, h.3)

pub ended_came : {T : Type 0} (did : T → Type 0) (why : Error → Acts → Acts → Type 0) (c d : Acts) (bs : List ℕ) → HasEnded c d → HasCome did why c d bs (Err (error.Died false))
ended_came did why c d bs h =
    record {
      same = h.0;
      ready = h.1;
      knows = knows_dead d.token bs h.2;
      dead = h.2;
      done = record { dead = h.2; spent = λ alive. h.3 };
    }

-- what was asked for was done before
pub ended_done : {T : Type 0} (did : T → Type 0) (why : Error → Acts → Acts → Type 0) (c d : Acts) (bs : List ℕ) → HasEnded c d → why (error.Died true) c d → HasCome did why c d bs (Err (error.Died true))
ended_done did why c d bs h done =
    record {
      same = h.0;
      ready = h.1;
      knows = knows_dead d.token bs h.2;
      dead = h.2;
      done = (record { dead = h.2; spent = λ alive. h.3 }, done);
    }

pub roots_then : (c d e : Acts) → KeepsRoots c d → KeepsRoots d e → KeepsRoots c e
roots_then c d e h k j = k j ∙ h j

pub named_then : (c d : Acts) (b : ℕ) → KeepsRoots c d → IsNamed b c.token → IsNamed b d.token
named_then c d b h n = record { root = n.root; low = n.low; some = n.some; named = h n.root ∙ n.named }

-- the own latch is held, as its client names itself now
pub held_own : (c d : Acts) → HasHeld c.token.account.who c d (Done tt) → IsHolding d.token.account.who d.token
held_own c d h = subst (λ (w : ℕ). IsHolding w d.token) (sym h.0.who) h.1

set_lives : (T : Type 0) (f : SetFault) (j : ℕ) → f ≢ set.NotHeld → false ≡ is_death {T = T} (Err (set_error f j))
set_lives T (set.NotAuthor a) j other = refl
set_lives T (set.NoSuchRef n) j other = refl
set_lives T set.NotHeld j other = absurd (other refl)
set_lives T (set.EraSpent e) j other = refl
set_lives T (set.CountFull b n) j other = refl

pub unset_other : (w j d : ℕ) (f : SetFault) → WhyUnset w j d f → f ≢ set.NotHeld
unset_other w j d f h is = subst (WhyUnset w j d) is h

unset_denied : (c e : Acts) (b j d : ℕ) (f : SetFault) → StandsOn c e → WhyUnset c.token.account.who j d f → Denies (WhyNotSet b j d) c e (set_error f j)
unset_denied c e b j d (set.NotAuthor a) stands h = (h, stands, tt)
unset_denied c e b j d (set.NoSuchRef n) stands h = (h, stands, refl)
unset_denied c e b j d set.NotHeld stands h = absurd h
unset_denied c e b j d (set.EraSpent n) stands h = ((h, stands.roots), stands.alive)
unset_denied c e b j d (set.CountFull x n) stands h = (h.2, stands, (h.0, h.1))

module _ (c d e f : Acts) (bs : List ℕ) (b j x : ℕ) (at : IsAtBlocks c.token) (knows : KnowsRoots c.token bs) (named : IsNamed b c.token) (held : HasHeld c.token.account.who c d (Done tt)) where
  abbrev Did : Unit {0} → Type 0
  Did u = KnowsReference b j x f × KeepsRoots c f

  module _ (r : Result (Unit {0}) SetFault) (h : HasSet b j x d e (Done r)) (g : HasGiven e f (Done tt)) where
    all_same : SameClient c f
    all_same = same_then c e f (same_then c d e held.0 h.0) g.0

    all_roots : KeepsRoots c f
    all_roots = roots_then c e f (roots_then c d e held.2 h.2) g.2

    all_known : KnowsRoots f.token bs
    all_known = knows_kept c.token f.token bs at.kind at.alive knows all_roots

  pub set_came : (u : Unit {0}) → HasSet b j x d e (Done (Ok u)) → HasGiven e f (Done tt) → HasCome Did (WhyNotSet b j x) c f bs (Ok u)
  set_came u h g =
      ok_came Did (WhyNotSet b j x) c f bs u (all_same (Ok u) h g) g.1 (all_known (Ok u) h g)
      (g.3 b j x (named_then c e b (roots_then c d e held.2 h.2) named) (h.1.latch ∙ ap (λ (w : ℕ). Some w) (sym h.0.who)) h.3, all_roots (Ok u) h g)

  pub unset_came : (f' : SetFault) → HasSet b j x d e (Done (Err f')) → HasGiven e f (Done tt) → HasCome Did (WhyNotSet b j x) c f bs (Err (set_error f' j))
  unset_came f' h g =
      let why : WhyUnset c.token.account.who j x f' = subst (λ (w : ℕ). WhyUnset w j x f') held.0.who h.3 in
      err_came Did (WhyNotSet b j x) c f bs (set_error f' j) (all_same (Err f') h g) g.1 (all_known (Err f') h g) (set_lives (Unit {0}) f' j (unset_other c.token.account.who j x f' why))
      (unset_denied c f b j x f' (record { alive = g.1.alive; roots = all_roots (Err f') h g }) why)

  -- it died in the giving back: where the word was set, it is known to be so
  pub give_died : (r : Result (Unit {0}) SetFault) → HasSet b j x d e (Done r) → HasGiven e f Died → HasCome Did (WhyNotSet b j x) c f bs (Err (error.Died (is_ok r)))
  give_died (Ok u) h g =
      let before : KeepsRoots c e = roots_then c d e held.2 h.2 in
      ended_done Did (WhyNotSet b j x) c f bs (ended_then c e f (same_then c d e held.0 h.0) g.0)
      (g.2 b j x (named_then c e b before named) (h.1.latch ∙ ap (λ (w : ℕ). Some w) (sym h.0.who)) h.3, roots_then c e f before g.1)
  give_died (Err f') h g = ended_came Did (WhyNotSet b j x) c f bs (ended_then c e f (same_then c d e held.0 h.0) g.0)
