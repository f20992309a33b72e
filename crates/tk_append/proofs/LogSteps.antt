-- A group more behind others, and writes into a file's front, which leave its groups.
use Rattle.std.proofs.Common.{◌≡◌, ℕ, ◌+◌, ◌≤◌, ◌^◌, List, [], ◌∷◌, ◌++◌, length, take, drop, sym, ◌∙◌, ap, subst, arith, append_assoc, length-append}
use Rattle.std.specs.Prelude.{Option, Some, None, IfSome}
use Rattle.std.specs.Option.{option_map}
use Rattle.std.proofs.lemmas.List.{append-nil, take_all, drop_all, drop-append-le, length-take-le, length-drop}
use Rattle.std.proofs.lemmas.Slice.{drop-append-drop}
use Rattle.tk_disk.specs.Disk.{put_at}
use Rattle.tk_model.specs.declared.record.Change.{Change}
use Rattle.tk_model.specs.declared.record.Change.TheVariants as changes
use Rattle.tk_model.specs.declared.record.Group.{Group}
use Rattle.tk_model.specs.Records.{AllFit}
use Rattle.tk_block.specs.declared.block.Body.{Body}
use Rattle.tk_block.specs.declared.head.StaticHead.{StaticHead}
use Rattle.tk_block.specs.Text.{base_of}
use Rattle.tk_block.specs.Blocks.{AllSmall, group_bodies}
use Rattle.tk_block.specs.Layout.{Placed, laid, end_of, links_of, texts, bodies_of, group_text}
use Rattle.tk_block.specs.Renumber.{unchecked_texts, IsGroupText, Renumbered}
use Rattle.tk_block.proofs.Layouts.{end_of-append, laid-append, links_of-append, length-links_of, texts-append-both, bodies_of-append, end_of-renumbered}
use Rattle.tk_append.specs.declared.log.GroupLog.{GroupLog}
use Rattle.tk_append.specs.Log.{HasGroups, blocks_of}
use Rattle.tk_append.specs.LogParts.{IsReservedText}
use Rattle.tk_block.proofs.Lengths.{length-texts}
use Rattle.tk_append.proofs.Layouts.{end_of-least}

-- what a file can hold a block can
pub fit_small : (cs : List Change) → AllFit cs → AllSmall cs
fit_small [] fit = tt
fit_small (changes.Put p ∷ cs) fit = (record { key_fits = omega (arith, fit.0); value_fits = fit.1 }, fit_small cs fit.2)
fit_small (changes.Drop k ∷ cs) fit = (record { key_fits = omega (arith, fit.0); value_fits = omega arith }, fit_small cs fit.1)
fit_small (changes.Clear ∷ cs) fit = (record { key_fits = omega arith; value_fits = omega arith }, fit_small cs fit)

-- a text that may be numbered
pub ready_text : (text : List ℕ) (place number : ℕ) (cs : List Change) (links : List ℕ) → AllFit cs → text ≡ unchecked_texts (laid place (group_bodies 0 cs)) links
    → end_of place (group_bodies number cs) ≤ 2 ^ 40 → IsGroupText text place
ready_text text place number cs links fit spelled fits = record {
  number = 0;
  changes = cs;
  links = links;
  small = fit_small cs fit;
  fits = omega (arith, fits, end_of-renumbered place 0 number cs);
  spelled = spelled;
}

-- a ready group's text under its number
pub text_is : {D : Type 0} (log : GroupLog D) (number : ℕ) (new : List ℕ) (cs : List Change) (links : List ℕ) → IsReservedText log cs links → Renumbered log.reserved_text new log.end number
    → new ≡ texts (laid log.end (group_bodies number cs)) links
text_is log number new cs links reserved_text again = again 0 cs links (fit_small cs reserved_text.fit) reserved_text.text

-- where it ends
pub end_is : (end number : ℕ) (text : List ℕ) (cs : List Change) (links : List ℕ) → text ≡ texts (laid end (group_bodies number cs)) links → end + length text ≡ end_of end (group_bodies number cs)
end_is end number text cs links is = ap (λ (l : List ℕ). end + length l) is ∙ length-texts end (group_bodies number cs) links

-- a write at the end
pub put_end : (at : ℕ) (bytes f : List ℕ) → length f ≡ at → put_at at bytes f ≡ f ++ bytes
put_end at bytes f is =
    ap (λ (l : List ℕ). l ++ (bytes ++ drop (at + length bytes) f)) (take_all at f (omega (arith, is)))
    ∙ ap (λ (l : List ℕ). f ++ (bytes ++ l)) (drop_all (at + length bytes) f (omega (arith, is)))
    ∙ ap (λ (l : List ℕ). f ++ l) (append-nil bytes)

pub length_put : (at : ℕ) (bytes f : List ℕ) → at + length bytes ≤ length f → length (put_at at bytes f) ≡ length f
length_put at bytes f within =
    omega (arith, within, length-append (take at f) (bytes ++ drop (at + length bytes) f), length-append bytes (drop (at + length bytes) f), length-take-le at f (omega (arith, within)), length-drop (at + length bytes) f)

-- what lies past a write
pub drop_put : (at n : ℕ) (bytes f : List ℕ) → at + length bytes ≤ length f → at + length bytes ≤ n → drop n (put_at at bytes f) ≡ drop n f
drop_put at n bytes f within past =
    ap (λ (l : List ℕ). drop n l) (sym (append_assoc (take at f) bytes (drop (at + length bytes) f)))
    ∙ drop-append-drop (at + length bytes) f (take at f ++ bytes) n past (omega (arith, within, length-append (take at f) bytes, length-take-le at f (omega (arith, within))))

-- a write in front of the records leaves the groups
has_put : (h : StaticHead) (groups : List Group) (at : ℕ) (bytes f : List ℕ) → at + length bytes ≤ base_of h.p → HasGroups h groups f → HasGroups h groups (put_at at bytes f)
has_put h groups at bytes f front has =
    let within : at + length bytes ≤ length f = omega (arith, front, has.size, end_of-least (base_of h.p) (bodies_of groups)) in
    record {
      size = length_put at bytes f within ∙ has.size;
      blocks = drop_put at (base_of h.p) bytes f within front ∙ has.blocks;
    }

pub there_put : (old new : Option (List ℕ)) (h : StaticHead) (groups : List Group) (at : ℕ) (bytes : List ℕ) → at + length bytes ≤ base_of h.p
    → IfSome old (HasGroups h groups) → new ≡ option_map (put_at at bytes) old → IfSome new (HasGroups h groups)
there_put None new h groups at bytes front there is = subst (λ (o : Option (List ℕ)). IfSome o (HasGroups h groups)) (sym is) tt
there_put (Some f) new h groups at bytes front there is =
    subst (λ (o : Option (List ℕ)). IfSome o (HasGroups h groups)) (sym is) (has_put h groups at bytes f front there)

-- where a group more ends
pub end_more : (base : ℕ) (groups : List Group) (g : Group) → end_of base (bodies_of (groups ++ g ∷ [])) ≡ end_of (end_of base (bodies_of groups)) (group_bodies g.number g.changes)
end_more base groups g =
    let bodies = group_bodies g.number g.changes in
    ap (λ (l : List Body). end_of base l) (bodies_of-append groups (g ∷ []))
    ∙ end_of-append base (bodies_of groups) (bodies ++ [])
    ∙ ap (λ (l : List Body). end_of (end_of base (bodies_of groups)) l) (append-nil bodies)

blocks_more : (h : StaticHead) (groups : List Group) (g : Group) → blocks_of h (groups ++ g ∷ []) ≡ blocks_of h groups ++ laid (end_of (base_of h.p) (bodies_of groups)) (group_bodies g.number g.changes)
blocks_more h groups g =
    let bodies = group_bodies g.number g.changes in
    ap (λ (l : List Body). laid (base_of h.p) l) (bodies_of-append groups (g ∷ []))
    ∙ laid-append (base_of h.p) (bodies_of groups) (bodies ++ [])
    ∙ ap (λ (l : List Body). laid (base_of h.p) (bodies_of groups) ++ laid (end_of (base_of h.p) (bodies_of groups)) l) (append-nil bodies)

-- a file with a group's text more has a group more
has_more : (h : StaticHead) (groups : List Group) (g : Group) (end : ℕ) (links f : List ℕ) → end ≡ end_of (base_of h.p) (bodies_of groups)
    → links ≡ links_of h.p (blocks_of h groups) (laid end (group_bodies g.number g.changes)) → HasGroups h groups f → HasGroups h (groups ++ g ∷ []) (f ++ group_text g end links)
has_more h groups g end links f ends linked has =
    let text = group_text g end links in
    let bodies = group_bodies g.number g.changes in
    let blocks = blocks_of h groups in
    let more = laid end bodies in
    let all : blocks_of h (groups ++ g ∷ []) ≡ blocks ++ more = blocks_more h groups g ∙ ap (λ (n : ℕ). blocks ++ laid n bodies) (sym ends) in
    record {
      size =
          length-append f text
          ∙ ap (λ (n : ℕ). n + length text) (has.size ∙ sym ends)
          ∙ length-texts end bodies links
          ∙ ap (λ (n : ℕ). end_of n bodies) ends
          ∙ sym (end_more (base_of h.p) groups g);
      blocks =
          drop-append-le (base_of h.p) f text (omega (arith, has.size, end_of-least (base_of h.p) (bodies_of groups)))
          ∙ ap (λ (l : List ℕ). l ++ text) has.blocks
          ∙ sym (texts-append-both blocks more (links_of h.p [] blocks) links (length-links_of h.p [] blocks))
          ∙ ap (λ (l : List ℕ). texts (blocks ++ more) (links_of h.p [] blocks ++ l)) linked
          ∙ ap (λ (l : List ℕ). texts (blocks ++ more) l) (sym (links_of-append h.p [] blocks more))
          ∙ sym (ap (λ (l : List Placed). texts l (links_of h.p [] l)) all);
    }

pub there_more : (old new : Option (List ℕ)) (h : StaticHead) (groups : List Group) (g : Group) (end : ℕ) (links : List ℕ) → end ≡ end_of (base_of h.p) (bodies_of groups)
    → links ≡ links_of h.p (blocks_of h groups) (laid end (group_bodies g.number g.changes)) → IfSome old (HasGroups h groups)
    → new ≡ option_map (λ f. f ++ group_text g end links) old → IfSome new (HasGroups h (groups ++ g ∷ []))
there_more None new h groups g end links ends linked there is = subst (λ (o : Option (List ℕ)). IfSome o (HasGroups h (groups ++ g ∷ []))) (sym is) tt
there_more (Some f) new h groups g end links ends linked there is =
    subst (λ (o : Option (List ℕ)). IfSome o (HasGroups h (groups ++ g ∷ []))) (sym is) (has_more h groups g end links f ends linked there)

-- a write of a text at the end
pub written_end : (old new : Option (List ℕ)) (end : ℕ) (bytes text : List ℕ) → IfSome old (λ f. length f ≡ end) → bytes ≡ text → new ≡ option_map (put_at end bytes) old
    → new ≡ option_map (λ f. f ++ text) old
written_end None new end bytes text here is written = written
written_end (Some f) new end bytes text here is written =
    written ∙ ap (λ (l : List ℕ). Some l) (put_end end bytes f here ∙ ap (λ (l : List ℕ). f ++ l) is)
