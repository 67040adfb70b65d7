use Rattle.row_covers.proofs.objects.fits_content.Goals as goal

pub is_of-requires-clause-id : goal.is_of-requires-clause-id
is_of-requires-clause-id c = c.is_complete.ensures.known c.if-is_complete.true

pub is_array_of-requires-clause-id : goal.is_array_of-requires-clause-id
is_array_of-requires-clause-id c = c.is_complete-in-Elements.ensures.known c.if-is_complete-2.true
