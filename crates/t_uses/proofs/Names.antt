-- a block that a root names: what is known of its words stays known, and own words are those of the pool
use Rattle.std.proofs.Common.{◌≡◌, ◌≢◌, ℕ, ◌<◌, Bool, true, [], refl, sym, ap, ◌∙◌, subst, append-nil, eqb}
use Rattle.std.proofs.lemmas.{Bool.{and_from, eq-eqb, or_left, or_right}, List.Elements.All-contains}
use Rattle.std.specs.{Prelude.{None, Some}, List.{Contains, list_any}}
use Rattle.shm_graph.specs.declared.{memo.{Memo.Memo, Op.TheVariants.Nothing, Stored.Stored}, spot.Spot.Spot}
use Rattle.shm_graph.specs.{declared.spot.Spot.TheVariants.Body, Runs.memos_of, Spots.see}
use Rattle.shm_graph.specs.{Views.{owner_is, own_word, view}, Core.core}
use Rattle.shm_graph.specs.Reach.{binds_unlatched, is_dying, is_latch_of, is_named, is_reached, named_blocks, unlatched}
use Rattle.shm_graph.proofs.Memos.KnownChange.{KnownHolds}
use Rattle.kind_laws.proofs.Lists.{Contains-filter}
use Rattle.shm_plain.specs.Pools.{IsRun, Pool, memo_of}
use Rattle.shm_count.specs.{Proved.Retaining.named_reached, Roots.root_word, Tear.Memos.Knows}
use Rattle.shm_count.proofs.RootSpots.{roots_reached}
use Rattle.shm_ref.specs.Hold.{wants}
use Rattle.t_uses.specs.Blocks.{word_of}

-- without looks what is in reach is what is named
pub root_named : (c : ℕ) (m : Memo) (k b : ℕ) → m.op ≡ Nothing → k < 16 → b ≢ 0 → root_word c m k ≡ b → is_named c m b ≡ true
root_named c m k b idle low some is = ap (list_any (eqb b)) (sym (append-nil (named_blocks c m))) ∙ roots_reached c (record m { looks = [] }) idle k b low some is

-- a word of a block that is named stays known where the own latch is given back
pub still_known : (wide : Bool) (c b i x : ℕ) (m r : Memo) → core r ≡ core (wants c 0 (unlatched wide c m)) → m.latch ≡ Some c → is_named c m b ≡ true → Knows m (Body b i) x → Knows r (Body b i) x
still_known wide c b i x m r e latch named knows =
    let n : Memo = record m { latch = None; looks = [] } in
    let own : is_latch_of c m.latch ≡ true = ap (is_latch_of c) latch ∙ eq-eqb c c refl in
    let there : is_reached c n b ≡ true = named_reached c n b named in
    let test : binds_unlatched wide (is_latch_of c m.latch) c n (Body b i) ≡ true = or_right (is_dying n b) _ (and_from (is_reached c n b) _ there (or_left (is_latch_of c m.latch) _ own)) in
    subst (λ ks. Contains ks (record { spot = Body b i; value = x })) (sym (ap (λ (y : Memo). y.known) e))
    (Contains-filter (λ (s : Stored). binds_unlatched wide (is_latch_of c m.latch) c n s.spot) m.known (record { spot = Body b i; value = x }) knows test)

module _ (p : Pool) (c : ℕ) (run : IsRun p) (l : c < p.start.geometry.clients) where
  -- a word of a block that is known is that of the pool
  pub known_word : (b i x : ℕ) → Knows (memo_of p c) (Body b i) x → word_of p (Body b i) ≡ x
  known_word b i x knows = (All-contains (KnownHolds p.start.geometry (see p.start.geometry p.words) (view (memos_of p.accounts)) c) (memo_of p c).known (record { spot = Body b i; value = x }) (run.held.at.known c l) knows).0

  -- an own word is that of the pool
  pub own_here : (s : Spot) → owner_is c s ≡ true → word_of p s ≡ own_word (memo_of p c).own s
  own_here s mine = sym (run.held.at.mine c l s mine)
