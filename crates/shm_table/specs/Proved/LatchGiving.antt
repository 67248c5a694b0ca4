-- the store that gives a latch back, in any step of a machine: also in its first one, which forgets what the calls before have read
use Rattle.std.proofs.Common.{◌≡◌, ℕ, List, [], Bool, true, false, None, sym, ap, ◌∙◌, subst, refl}
use Rattle.std.proofs.lemmas.List.Elements.{All-nil, All-filter}
use Rattle.std.specs.{Prelude.Option, List.filter}
use Rattle.shm_words.specs.declared.geometry.Geometry.{Geometry}
use Rattle.shm_graph.specs.declared.{ask.{Ask.TheVariants.Store, Me.Me}, spot.Spot.{Spot, TheVariants.Latch}}
use Rattle.shm_graph.specs.{declared.memo.{Fact.Fact, Memo.Memo, Stored.Stored, Test.Test}, Asks.Trail, Blocks.classes}
use Rattle.shm_graph.specs.{Changes.is_lane_count, Held.HeldAt, Laws.{Frame, KeptAt, Stands}, Spots.spot_at}
use Rattle.shm_graph.specs.Views.{View, at1, view}
use Rattle.shm_graph.proofs.Memos.{Calls.{FactHolds, call_held}, Frames.at1_twice, MemoParts.put_same}
use Rattle.shm_graph.proofs.StepKinds.{Keeping.told_fixed, KindKeeping.kept_from}
use Rattle.kind_laws.specs.Latches.{BackNeeds, back_view}
use Rattle.kind_laws.proofs.{Latches.back_kept, Quiet.back_quiet}
use Rattle.kind_parts.specs.Unlatching.{MayUnlatch}
use Rattle.kind_parts.proofs.LatchBack.{back_step, kept, latch_back, values}

pub latch_given : (me : Me) (w : Spot → ℕ) (r : ℕ → Memo) (f : Frame) (tr : Trail) (at a : ℕ) → Stands me w r f tr → spot_at me.geometry (classes w) at ≡ Latch a → MayUnlatch (r me.who) a
    → KeptAt me w r (Store at 0) f (λ n m. Unit {0}) (spot_at me.geometry (classes w) at)
latch_given me w r f tr at a s e may = by f.fresh refl
  where
    g : Geometry
    g = me.geometry

    c : ℕ
    c = me.who

    v : View
    v = view r

    -- what stays known, and which value blocks
    ks : List Stored
    ks = kept g w r s.held c s.who

    vs : List ℕ
    vs = values g w r s.held c s.who

    -- what was read of tails and heads
    counts : List Fact
    counts = filter is_lane_count (r c).facts

    -- the view in which the call so far binds no more than that
    u : View
    u = record v { facts = at1 v.facts c counts; zeros = at1 v.zeros c []; test = at1 v.test c None; made = at1 v.made c [] }

    -- it holds
    held : HeldAt g w u
    held = call_held g w v c counts [] None [] s.held (All-filter is_lane_count (FactHolds g w v) (r c).facts (s.held.facts c s.who)) (All-nil _) tt (All-nil _)

    step : BackNeeds g w u c a ks vs
    step = let b = back_step g w r s.held c s.who a may in record { inside = b.inside; acts = b.acts; here = b.here; op = b.op; latch = b.latch; knows = b.knows; valued = b.valued }

    -- the first step of a machine
    begun : KeptAt me w r (Store at 0) (record f { fresh = true }) (λ n m. Unit {0}) (Latch a)
    begun =
        kept_from me w r (Store at 0) (record f { fresh = true }) (λ n m. Unit {0}) (Latch a) (back_view u c ks vs)
        (told_fixed g (classes w) c (r c) (Store at 0) (Latch a) e refl)
        (ap
        (λ (k : ℕ → Option Test). record v { latch = at1 v.latch c None; looks = at1 v.looks c []; known = at1 v.known c ks; values = at1 v.values c vs; facts = at1 v.facts c counts; zeros = at1 v.zeros c []; test = k; made = at1 v.made c [] })
        (at1_twice v.test c None None)
        ∙ sym
        (ap
        (λ (y : View). record y { latch = at1 v.latch c None; looks = at1 v.looks c []; known = at1 v.known c ks; values = at1 v.values c vs; facts = at1 v.facts c counts; zeros = at1 v.zeros c []; test = at1 v.test c None; made = at1 v.made c [] })
        (put_same v c)))
        (back_kept g w u c a ks vs held step)
        (back_quiet g w u c a ks vs held step)
        ((s.held.latch c s.who).some a may.latch).0 tt tt tt

    by : (b : Bool) → f.fresh ≡ b → KeptAt me w r (Store at 0) f (λ n m. Unit {0}) (spot_at g (classes w) at)
    by true q = subst (KeptAt me w r (Store at 0) f (λ n m. Unit {0})) (sym e) (subst (λ b. KeptAt me w r (Store at 0) (record f { fresh = b }) (λ n m. Unit {0}) (Latch a)) (sym q) begun)
    by false q = latch_back me w r f tr at a s q e may
