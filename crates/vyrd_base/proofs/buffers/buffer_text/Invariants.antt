use Rattle.vyrd_base.proofs.Prelude.{◌≡◌, ◌^◌, true, buffer_at, are_characters, text_of}
use Rattle.vyrd_base.proofs.buffers.buffer_text.Given as goal

abbrev pub invariant-loop-i : goal.invariant-loop-i
invariant-loop-i l = record {
  text : l.text ≡ text_of (buffer_at l.words l.number).character l.i;
  power : l.power ≡ 256 ^ l.i;
  characters : are_characters (buffer_at l.words l.number).character l.i ≡ true;
}
