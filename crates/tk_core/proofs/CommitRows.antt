-- A call that is committed: the rows show the callers of the rule once it stands in the history.
use Rattle.std.proofs.Common.{◌≡◌, ◌≢◌, ◌⊎◌, ℕ, ◌+◌, ◌-◌, ◌<◌, Bool, true, false, List, [], ◌∷◌, ◌++◌, length, reverse, length-append, map, filter, set, get_or, refl, sym, ap, ◌∙◌, subst, arith, Decides}
use lib.ListN.{get_elem?}
use Rattle.std.proofs.lemmas.List.{reverse-append}
use mathlib.Core.Option.{some}
use lib.Seq.{map-set}
use Rattle.tk_model.specs.declared.record.Pair.{Pair}
use Rattle.tk_model.specs.declared.record.Entry.{Entry}
use Rattle.tk_model.specs.declared.record.Entry.TheVariants as entries
use Rattle.tk_model.specs.Entries.{after_entry, changes_of, is_in_shard}
use Rattle.tk_model.proofs.RecordLaws.{entries_rising}
use Rattle.tk_model.specs.declared.record.Change.{Change}
use Rattle.tk_core.specs.declared.frame.Frame.{Frame}
use Rattle.tk_core.specs.declared.machine.Row.{Row}
use Rattle.tk_core.specs.declared.moves.Move.TheVariants as moves
use Rattle.tk_core.specs.Commits.{hand, records_of, after_call, MayWrite, MayMake}
use Rattle.tk_core.specs.Covers.{CoversReads, CoversWrites}
use Rattle.tk_core.specs.Moves.{committed}
use Rattle.tk_core.specs.Needs.{MayCommit}
use Rattle.tk_core.specs.Program.{CoreState, AnyCaller, IsCore, firsts, numbered, caller_of}
use Rattle.tk_core.specs.Rule.{map_after, shard, is_hard}
use Rattle.tk_core.proofs.Calls.{Alike, call_alike, replay_snoc}
use Rattle.tk_core.proofs.Histories.{Fits, within, firsts_all, at_end, at_mapped, elem_at, map_alike, numbered_longer, row_longer}
use Rattle.tk_core.proofs.Rows.{IsDone, done, in_map, there, of_row, unchanged}

-- ---- what a caller may commit is what its row allows

-- the law of a core's stores, which each map meets
abbrev pub EveryMap : List Pair → Type 0
EveryMap m = true ≡ true

-- what a call writes depends on its changes alone
moved : (f : Frame) (r : Row) (log : List Entry) (m n : List Pair) (e : Entry) → changes_of f.order m e ≡ changes_of f.order n e → MayWrite f (hand r) m e → MayWrite f (caller_of log r) n e
moved f r log m n e same w = record {
  writes = subst (λ (cs : List Change). CoversWrites f r.held.items cs) same w.writes;
  out = λ i low c. w.out i low (subst (λ (cs : List Change). (filter (is_in_shard (shard f i)) cs ≢ []) ⊎ (is_hard e ≡ true)) (sym same) c);
}

-- ---- the rows after it

-- the row of the caller that made it
fresh_row : (log : List Entry) (row new : Row) (e : Entry) (n : ℕ) → Fits log row → n ≡ length log → new ≡ record row { allowance = row.allowance - 1; seen = n + 1; base = n + 1; mine = new.mine } → new.mine.items ≡ row.mine.items ++ n ∷ []
    → caller_of (log ++ e ∷ []) new ≡ committed log e (caller_of log row)
fresh_row log row new e n fit at is mine =
    let len : length (log ++ e ∷ []) ≡ length log + 1 = length-append log (e ∷ []) in
    let whole : firsts (n + 1) (log ++ e ∷ []) ≡ log ++ e ∷ [] = firsts_all (n + 1) (log ++ e ∷ []) (omega arith) in
    let mines : numbered (log ++ e ∷ []) (reverse new.mine.items) ≡ (length log, e) ∷ numbered log (reverse row.mine.items) =
    ap (λ ns. numbered (log ++ e ∷ []) (reverse ns)) mine ∙ ap (numbered (log ++ e ∷ [])) (reverse-append row.mine.items (n ∷ [])) ∙ (λ t. (at t, at_end log e entries.Clear n at t) ∷ numbered_longer log (e ∷ []) (reverse row.mine.items) fit.mine t) in
    ap (caller_of (log ++ e ∷ [])) is ∙ (λ t. record (caller_of log row) { allowance = row.allowance - 1; seen = whole t; base = whole t; mine = mines t })

module _ (f : Frame) (log : List Entry) (owners : List ℕ) (spoilt away : List Bool) (rows : List Row) where
  abbrev pub shown : List Entry → List Row → CoreState
  shown es rs = record { frame = f; log = es; owners = owners; spoilt = spoilt; away = away; callers = map (caller_of es) rs }

  module _ (ok : IsCore (shown log rows)) where
    all_fit : (j : ℕ) (r : Row) → get_elem? rows j ≡ some r → Fits log r
    all_fit j r at = let k = ok.sound.knows j (caller_of log r) (at_mapped (caller_of log) rows j r at) in
        record { seen = within r.seen log k.seen; base = within r.base log k.base; mine = k.placed }

    row_fits : (i : ℕ) (row : Row) → i < length rows → row ≡ get_or rows i row → Fits log row
    row_fits i row low is = all_fit i row (elem_at rows i row low is)

    -- a call is on all records what it is on those that the caller knows
    pub commit_needs : (i : ℕ) (row : Row) (e : Entry) (b : Bool) → i < length rows → row ≡ get_or rows i row → row.live ≡ true → 0 < row.allowance → Decides b (MayMake f (hand row) (map_after f [] log) e)
        → Decides b (MayCommit f EveryMap [] e (caller_of log row))
    commit_needs i row e b low is live room d =
        let k = ok.sound.knows i (caller_of log row) (there log rows i row low is) in
        let known : List Pair = map_after f [] (firsts row.base log) in
        let all : List Pair = map_after f [] log in
        let alike : CoversReads f row.held.items e → Alike f.order e known all = λ r.
        call_alike f row.held.items ok.sound.frame known all (entries_rising f.order (firsts row.base log) [] tt) (entries_rising f.order log [] tt) k.still.records e r in (
          λ t. let h = d.0 t in let a = alike h.reads in let w = moved f row log all known e (sym a.1) h.may_write in
              record { live = live; allowance = room; fits = a.0 ∙ h.fits; keeps = λ n r l g. refl; reads = h.reads; writes = w.writes; out = w.out },
          λ h. let a = alike h.reads in let w : MayWrite f (hand row) known e = record { writes = h.writes; out = h.out } in let u = moved f row [] known all e a.1 w in
              d.1 (record { fits = sym a.0 ∙ h.fits; reads = h.reads; may_write = record { writes = u.writes; out = u.out } }),
        )

    module _ (i : ℕ) (e : Entry) (old : CoreState) (view : shown log rows ≡ old) where
      abbrev May : CoreState → Type 0
      May s = AnyCaller s i (MayCommit s.frame EveryMap [] e)

      shows_may : May old → May (shown log rows)
      shows_may = subst May (sym view)

      -- what shows the same meets the rule still
      pub still_core : (d : CoreState) → d ≡ old → IsCore d
      still_core d same = subst IsCore (view ∙ sym same) ok

      pub in_rows : May old → i < length rows
      in_rows b = let a = shows_may b in in_map (caller_of log) rows i a.0 a.1

      module _ (b : May old) (row new : Row) (is : row ≡ get_or rows i row) where
        needs : MayCommit f EveryMap [] e (caller_of log row)
        needs = of_row log rows i row (in_rows b) is (MayCommit f EveryMap [] e) (shows_may b)

        pub room : 0 < row.allowance
        room = needs.allowance

        -- nothing changed, where memory was wanted
        pub undone : (es : List Entry) → es ≡ log → new ≡ record row { mine = new.mine } → new.mine.items ≡ row.mine.items → shown es (set rows i new) ≡ old
        undone es back only mine = ap (λ (l : List Entry). shown l (set rows i new)) back
            ∙ unchanged f log owners spoilt away rows i row new is old view ok (b.0, b.1, tt) (ap (caller_of log) only ∙ (λ t. record (caller_of log row) { mine = numbered log (reverse (mine t)) }))

        pub did : (es : List Entry) (n : ℕ) → es ≡ log ++ e ∷ [] → n ≡ length log → new ≡ record row { allowance = row.allowance - 1; seen = n + 1; base = n + 1; mine = new.mine } → new.mine.items ≡ row.mine.items ++ n ∷ []
            → IsDone (moves.Commit i e) old (shown es (set rows i new))
        did es n snoc len only mine =
            let fresh : caller_of (log ++ e ∷ []) new ≡ committed log e (caller_of log row) = fresh_row log row new e n (row_fits i row (in_rows b) is) len only mine in
            let callers : map (caller_of es) (set rows i new) ≡ set (map (caller_of log) rows) i (committed log e (caller_of log row)) =
            ap (λ (l : List Entry). map (caller_of l) (set rows i new)) snoc ∙ map-set (caller_of (log ++ e ∷ [])) rows i new
            ∙ (λ t. set (map_alike (caller_of (log ++ e ∷ [])) (caller_of log) rows (λ j r at. row_longer log (e ∷ []) r (all_fit j r at)) t) i (fresh t)) in
            subst (λ (s : CoreState). IsDone (moves.Commit i e) s (shown es (set rows i new))) view
            (done (moves.Commit i e) (shown log rows) (shown es (set rows i new)) ok refl refl refl refl
            (record {
              caller = caller_of log row;
              is_caller = there log rows i row (in_rows b) is;
              needs = needs;
              after = λ t. record { law = λ m. true; first = []; log = snoc t; owner = λ l. get_or owners l 0; spoilt = λ q. get_or spoilt q false; away = λ q. get_or away q false; stands = λ q gs n. true; callers = callers t };
            }))

-- the records after one more call
pub records_more : (c : CoreState) (e : Entry) (f : Frame) (log : List Entry) → f ≡ c.frame → log ≡ c.log ++ e ∷ [] → after_call e (records_of c) ≡ record { order = f.order; pairs = map_after f [] log }
records_more c e f log frame snoc =
    let goes : after_entry c.frame.order e (map_after c.frame [] c.log) ≡ map_after c.frame [] (c.log ++ e ∷ []) = sym (replay_snoc c.frame.order c.log e []) in
    (λ t. record { order = c.frame.order; pairs = goes t }) ∙ (λ t. record { order = (sym frame t).order; pairs = map_after (sym frame t) [] (sym snoc t) })
