mod Going
