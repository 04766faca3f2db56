use Rattle.vx_laws_text.proofs.EnoughRoom.{queries_have_room, types_have_room, items_have_room, names_have_room, arguments_have_room, chains_have_room, steps_have_room}
use Rattle.vx_laws_text.proofs.room.fuel_is_enough.Goals as goal

pub returns : goal.returns
returns c =
    record {
      queries = queries_have_room;
      types = types_have_room;
      items = items_have_room;
      names = names_have_room;
      arguments = arguments_have_room;
      chains = chains_have_room;
      steps = steps_have_room;
    }
