-- A text whose matches are rewritten by calls that write what a function of the match gives. For callers.
pub use Rattle.literal_pieces.proofs.lemmas.RewrittenBy.{AreWritten, BeginsFrom, all_replaced, all_written}
pub use Rattle.literal_pieces.proofs.lemmas.RewrittenBy.{greedy_begins, part_replaced, part_written, replaces_each}
pub use Rattle.literal_pieces.proofs.lemmas.RewrittenBy.{stops_each, words_begin}
