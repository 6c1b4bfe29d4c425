-- The steps of `shorten_prefix` and `merge_from`, over plain lists and numbers.
-- Assumes nothing.
use Prim.Native.Nat.{ℕ, ◌+◌, ◌-◌, ◌*◌, ◌^◌, ◌≤◌, ◌<◌}
use mathlib.Core.List.{List, map}
use mathlib.Core.Path.{◌≡◌, ◌∙◌, ap, subst}
use native.Mathlib.Numerals.{add-one}
use native.Mathlib.Omega.{arith}
use lib.ListN.{get_or, length}
use Rattle.directory.specs.Takes.{CanTakeOver, TakenOver}
use Rattle.layout.specs.Order.{word_extent}
use Rattle.layout.proofs.OrderLaws.{order_top}
use Rattle.regrow.specs.Merge.{CanMerge, Merged, low_from}
use Rattle.regrow.specs.MergeLaws.{merge_can_regrow, merge_can_take, merge_done}
use Rattle.regrow.specs.Regrow.{CanRegrow, Regrown, low_word_at, words_at}
use Rattle.regrow.specs.RegrowLaws.{from_ahead, pairs_ordered, room_fits}
use Rattle.words.specs.Words.{LowKeyUnpacked, first_slot, low_key_slot, word_count, word_leaf, word_offset, word_suffix, word_value}
use Rattle.words.specs.declared.LowKey.{LowKey}

module _ {fanout : ℕ} {slots arena : List ℕ} {d g from : ℕ} (h : CanRegrow fanout slots arena d g from) where
  pub low_place : {leaf : ℕ} → leaf ≡ word_leaf d → (0 < fanout) × (low_key_slot fanout leaf < length slots)
  low_place e = rw e (inside (first_slot fanout (word_leaf d)) (word_count d) h.regrows.owns.inside h.regrows.owns.count_fits)
    where
      inside : (x c : ℕ) → x + fanout ≤ length slots → c < fanout → (0 < fanout) × (x + (fanout - 1) < length slots)
      inside x c i k = (omega arith, omega arith)

  pub from_small : from < 2 ^ 28
  from_small =
      let w = low_word_at fanout slots d in
      let end : word_offset w + (word_suffix w + word_value w) ≤ h.top = order_top _ (map word_extent (words_at fanout slots d)) h.top (pairs_ordered h.regrows) in
      below (word_offset w + (word_suffix w + word_value w)) (word_count d * g) (from_ahead h.regrows) end (room_fits h.regrows) h.regrows.arena_fits
    where
      below : (x y : ℕ) → from + g ≤ x → x ≤ h.top → h.top + y ≤ length arena → length arena < 2 ^ 28 → from < 2 ^ 28
      below x y i j k m = omega arith

-- the low key's word was read
pub from_same : (fanout : ℕ) (slots : List ℕ) (d kept : ℕ) {leaf spot : ℕ} {s : LowKey} → leaf ≡ word_leaf d → spot ≡ low_key_slot fanout leaf → LowKeyUnpacked (get_or slots spot 0) s
    → s.offset.0 + kept ≡ low_from fanout slots d kept
from_same fanout slots d kept {leaf} {spot} e f u =
    ap (λ (x : ℕ). x + kept) (u.offset_is ∙ ap (λ (x : ℕ). word_offset (get_or slots x 0)) (f ∙ ap (low_key_slot fanout) e))

pub can_regrow : {fanout : ℕ} {slots arena : List ℕ} {d g : ℕ} (kept : ℕ) → CanRegrow fanout slots arena d g (low_from fanout slots d kept) → {leaf spot : ℕ} {s : LowKey} → leaf ≡ word_leaf d
    → spot ≡ low_key_slot fanout leaf → LowKeyUnpacked (get_or slots spot 0) s → CanRegrow fanout slots arena d g (s.offset.0 + kept)
can_regrow {fanout} {slots} {arena} {d} {g} kept h e f u = rw (from_same fanout slots d kept e f u) h

pub shortened : {fanout : ℕ} {slots arena : List ℕ} {d g : ℕ} (kept : ℕ) {exit_slots exit_arena : List ℕ} {leaf spot : ℕ} {s : LowKey} → leaf ≡ word_leaf d
    → spot ≡ low_key_slot fanout leaf → LowKeyUnpacked (get_or slots spot 0) s → Regrown fanout slots arena d g (s.offset.0 + kept) exit_slots exit_arena
    → Regrown fanout slots arena d g (low_from fanout slots d kept) exit_slots exit_arena
shortened {fanout} {slots} {arena} {d} {g} kept {exit_slots} {exit_arena} e f u =
    subst (λ (x : ℕ). Regrown fanout slots arena d g x exit_slots exit_arena) (from_same fanout slots d kept e f u)

-- merge_from

module _ {fanout leaves : ℕ} {dir slots arena : List ℕ} {j q kept : ℕ} (h : CanMerge fanout leaves dir slots arena j q kept) where
  pub can_shorten : (kept ≤ q) × CanRegrow fanout slots arena (get_or dir (j + 1) 0) (q - kept) (low_from fanout slots (get_or dir (j + 1) 0) kept)
  can_shorten = (h.merges.shorter, rw (add-one j) (merge_can_regrow h))

  module _ {now_slots now_arena : List ℕ} (u : Regrown fanout slots arena (get_or dir (j + 1) 0) (q - kept) (low_from fanout slots (get_or dir (j + 1) 0) kept) now_slots now_arena)
      (long : length now_slots ≡ length slots) where
    pub can_take : CanTakeOver fanout leaves dir now_slots j
    can_take = merge_can_take h (rw (add-one j) at u) long

    pub merged : {exit_dir exit_slots : List ℕ} → TakenOver fanout leaves dir now_slots j exit_dir exit_slots
        → Merged fanout leaves dir slots arena j q kept exit_dir exit_slots now_arena
    merged = merge_done h (rw (add-one j) at u) long
